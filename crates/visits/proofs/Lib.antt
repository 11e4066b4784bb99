-- `Flags`: flags written as words and read back. `Laws`: one of them changed.
pub mod Flags
pub mod Laws
