pub mod State
pub mod Record
pub mod Visit
pub mod Heard
