pub mod Places
pub mod Numbers
pub mod Bytes
