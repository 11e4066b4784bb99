-- `Members`: one list of a context. `Contexts`: those of all nodes. `Spare`: the bits behind those of the pairs. `Whole`: the three parts one after another.
pub mod Members
pub mod Contexts
pub mod Spare
pub mod Whole
