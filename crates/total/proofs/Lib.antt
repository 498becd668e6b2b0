pub mod Answering
pub mod Filled
mod Filling
mod Gathering
pub mod Outputs
pub mod SerialLaws
mod Walking
