-- Laws that the functions' proofs share.
pub mod Judging
pub mod OpenAnswers
pub mod CheckedLaws
pub mod SignedLaws
pub mod SignAnswers
pub mod Numbered
