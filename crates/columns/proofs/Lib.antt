pub mod Spelling
pub mod Columns
