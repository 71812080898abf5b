-- Laws that the functions' proofs share.
pub mod Pieces
pub mod Blanked
pub mod SumPieces
