pub mod Bits
pub mod Sap
pub mod Status
pub mod Params
