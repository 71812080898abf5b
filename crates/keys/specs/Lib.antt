pub mod Algorithm
pub mod Entry
pub mod Match
pub mod Table
pub mod Places
pub mod Clash
pub mod Mirror
pub mod Marks
