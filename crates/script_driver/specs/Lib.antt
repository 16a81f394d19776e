pub mod Run
pub mod Arrays
pub mod Calls
pub mod Pieces
pub mod Room
