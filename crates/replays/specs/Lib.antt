-- `Compare`: when a list's numbers and ours are the same. `Next`: the next case of a list.
pub mod Compare
pub mod Next
