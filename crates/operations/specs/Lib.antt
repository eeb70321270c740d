pub mod Fitting
pub mod Results
