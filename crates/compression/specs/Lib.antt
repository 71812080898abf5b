pub mod Words
pub mod Schedule
pub mod TableLaws
pub mod Sha1Block
pub mod Sha256Block
pub mod Md5Block
