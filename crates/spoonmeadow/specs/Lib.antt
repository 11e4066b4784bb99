-- The entries over the C boundary: what each leaves.
pub mod Across
