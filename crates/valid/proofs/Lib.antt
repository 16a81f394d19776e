pub mod Stations
pub mod Balances
pub mod Calls
pub mod Replying
pub mod Turning
pub mod Adding
