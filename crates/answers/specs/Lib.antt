-- What answers say over the C boundary.
pub mod Answers
