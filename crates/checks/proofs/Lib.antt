-- Laws that the functions' proofs share.
pub mod Keyed
pub mod Judging
