pub mod Answering
pub mod Demand
