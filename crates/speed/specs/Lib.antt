pub mod Balance
pub mod Total
