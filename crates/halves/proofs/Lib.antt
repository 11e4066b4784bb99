-- What one step of half a job leaves.
pub mod Laws
