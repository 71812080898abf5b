pub mod Sized
pub mod Groups
pub mod SignGroups
pub mod SignLaws
pub mod GroupLaws
pub mod Begin
pub mod BeginLaws
