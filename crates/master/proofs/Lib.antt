pub mod Sweep
pub mod Turns
pub mod Receives
pub mod Adds
pub mod Dones
pub mod Bits
pub mod Checks
