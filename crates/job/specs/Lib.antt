pub mod Entries
pub mod Kinds
pub mod Lawful
pub mod Layouts
pub mod Loops
pub mod Nesting
pub mod Refusals
pub mod Rows
