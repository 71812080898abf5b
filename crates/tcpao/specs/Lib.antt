pub mod Arriving
pub mod Refusals
pub mod SignedBytes
pub mod SignBegin
