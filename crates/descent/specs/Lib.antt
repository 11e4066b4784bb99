-- What the entries of a descent are lent, and what they leave.
pub mod Descent
