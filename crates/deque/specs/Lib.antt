pub mod Deques
pub mod Queues
