-- `Parts`: a list in its room of the state. `Encoding`: the encoding of a relay of which a list or a job is changed.
-- `Stages`: the stages of half a job. `Half`: one step of a job in the state. `Table`: which row decides. `Outcomes`: the whole call, and that two outcomes are equal.
pub mod Parts
pub mod Encoding
pub mod Stages
pub mod Half
pub mod Table
pub mod Outcomes
