pub mod Checksum
pub mod Running
