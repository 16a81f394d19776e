pub mod Fields
pub mod Making
pub mod Adding
pub mod Running
pub mod Handles
pub mod Call
