-- Laws that the functions' proofs share.
pub mod Bytes
pub mod Tests
pub mod Walk
pub mod PlaceLaws
pub mod EntryLaws
pub mod FaultLaws
pub mod FormedLaws
pub mod FoundLaws
pub mod LoadLaws
pub mod MatchLaws
pub mod MirrorLaws
pub mod WalkLaws
