-- `Table`: which row of the table decides, and what it is that none holds. `Fits`: what holds of each distance of the best set.
-- `Outcomes`: the walk's answer, and that two outcomes which the contract allows are equal.
pub mod Table
pub mod Fits
pub mod Outcomes
