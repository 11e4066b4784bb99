-- `Eight`: a block of eight nodes, their totals, and pairs that are fit. `Four`: four nodes at once.
pub mod Eight
pub mod Four
