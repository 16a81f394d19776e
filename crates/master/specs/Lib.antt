pub mod Unit
pub mod Pools
pub mod Add
pub mod Handle
pub mod Turn
pub mod Receive
