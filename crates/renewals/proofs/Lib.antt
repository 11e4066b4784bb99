-- `Counts`: how many members there are, and draws. `Places`: lists of contexts in words. `Whole`: what the two functions leave.
pub mod Counts
pub mod Places
pub mod Whole
