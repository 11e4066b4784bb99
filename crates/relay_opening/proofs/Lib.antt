-- `Table`: which row decides. `Outcomes`: what an opening leaves.
pub mod Table
pub mod Outcomes
