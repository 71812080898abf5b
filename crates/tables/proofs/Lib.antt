-- Laws that the functions' proofs share.
pub mod Checked
pub mod ApartLaws
pub mod CrossingLaws
pub mod LimitLaws
pub mod SameLaws
pub mod SearchLaws
pub mod ValidLaws
