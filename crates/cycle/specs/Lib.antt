pub mod Seen
pub mod State
pub mod Refusal
