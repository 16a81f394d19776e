pub mod Trial
pub mod Table
