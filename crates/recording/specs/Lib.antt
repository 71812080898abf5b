pub mod Lines
pub mod Recording
pub mod Views
pub mod Held
pub mod Live
