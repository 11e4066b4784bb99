-- `Shape`: the numbers of a relay in a list. `Left`: what a move and a close left, beside the list's.
pub mod Shape
pub mod Left
