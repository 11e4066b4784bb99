-- The parameters: their defaults, each setter's change, and build's sizes of them.
pub mod Params
