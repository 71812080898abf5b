pub mod Octets
pub mod Each
pub mod Tests
pub mod TestLaws
pub mod PaddedLaws
