-- `Shape`: the numbers of a build in a list. `Left`: what a build left, beside the list's.
pub mod Shape
pub mod Left
