-- `Blocks`: a slice written a block at a time. `Closing`: what a close writes. `Table`: which row decides. `Outcomes`: the whole call.
pub mod Blocks
pub mod Closing
pub mod Table
pub mod Outcomes
