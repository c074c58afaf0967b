pub mod Kinds
pub mod Laws
pub mod Solutions
pub mod Forms
