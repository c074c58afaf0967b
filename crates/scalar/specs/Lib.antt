pub mod Ops
pub mod FloatLaws
pub mod FloatOps
pub mod ComplexOps
pub mod Lawful
