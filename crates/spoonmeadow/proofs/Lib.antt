-- The laws of the C boundary.
pub mod Laws
