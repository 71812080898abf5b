pub mod Tables
pub mod Preparing
pub mod Valid
pub mod Same
pub mod Search
pub mod Crossing
pub mod Limit
