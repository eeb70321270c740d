pub mod Traces
pub mod Telling
pub mod Demand
