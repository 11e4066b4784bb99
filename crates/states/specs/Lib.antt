-- `Read`: a state, read. `Same`: when two lists hold the same.
pub mod Read
pub mod Same
