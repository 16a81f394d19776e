pub mod Laws
pub mod Reading
