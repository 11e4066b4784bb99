-- `Exact`: the distances of a node to all, and what the functions of step 1 leave in their slices.
pub mod Exact
