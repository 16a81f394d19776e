pub mod Listing
pub mod Diagnosis
