-- `Chosen`: what the choice of step 3 leaves in its slices, and entries whose nodes are below n.
pub mod Chosen
