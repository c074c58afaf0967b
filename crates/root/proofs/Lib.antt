pub mod Drawing
pub mod Windows
pub mod Answer
pub mod RootOfTwo
