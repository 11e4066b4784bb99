-- What the passes count on of a context.
pub mod Passes
