pub mod Area
pub mod Bits
pub mod Reading
pub mod Same
pub mod BytesLaws
pub mod Words
