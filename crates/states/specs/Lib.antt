pub mod Layout
pub mod WordLaws
pub mod LayoutLaws
