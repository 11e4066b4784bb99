-- `Shape`: the numbers of a descent in a list. `Left`: what its calls answered and left, beside the list's.
pub mod Shape
pub mod Left
