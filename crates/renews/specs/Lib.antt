-- New and old lists gathered from a state.
pub mod Renews
