pub mod Checks
pub mod Results
