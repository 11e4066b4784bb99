-- `Formed`: descents that their encoding has room for, and well-formed ones.
pub mod Formed
