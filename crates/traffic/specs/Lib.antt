pub mod Padded
pub mod Flow
pub mod MacContext
pub mod MacContextLaws
pub mod TagLaws
pub mod DigestLaws
