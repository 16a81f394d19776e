pub mod Request
pub mod Payload
pub mod Diagnosis
