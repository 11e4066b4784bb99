-- What is proved of distances, beside the functions. `Steps`: what the functions lean on.
-- `Symmetry`, `Fitness`, `Finite`, `Self`: the distance itself. `Pairs`: row 10 of all pairs.
pub mod Steps
pub mod Symmetry
pub mod Fitness
pub mod Finite
pub mod Self
pub mod Pairs
