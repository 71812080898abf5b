-- Laws that the functions' proofs share.
pub mod Laws
pub mod MarkLaws
pub mod ScanSteps
pub mod LayLaws
