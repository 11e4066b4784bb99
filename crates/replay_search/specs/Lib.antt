-- `Shape`: the numbers of a search in a list. `Left`: what a search found and left, beside the list's.
pub mod Shape
pub mod Left
