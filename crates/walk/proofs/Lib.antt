-- `Rooted`: the roots worked out. `Starts`: the first of them entered. `Marks`: as many flags are set as there are roots. `Walking`: the whole walk.
-- `Enough`: a limit of n takings is none.
pub mod Rooted
pub mod Starts
pub mod Marks
pub mod Walking
pub mod Enough
