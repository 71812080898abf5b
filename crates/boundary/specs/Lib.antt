pub mod Word
pub mod Exports
pub mod Numbers
pub mod Unchanged
pub mod WordLaws
pub mod NumberLaws
pub mod UnchangedLaws
