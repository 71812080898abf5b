pub mod Ring
pub mod RoundLaws
pub mod BlockWords
pub mod Sha1Compression
pub mod Sha256Compression
pub mod Md5Operations
