-- What an iteration's work counts on, and what each part of it leaves.
pub mod Iterates
