pub mod Exported
pub mod Lends
