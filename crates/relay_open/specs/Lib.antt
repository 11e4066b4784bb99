-- The entry `open`.
pub mod Open
