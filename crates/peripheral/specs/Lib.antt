pub mod Record
pub mod Visit
pub mod Response
