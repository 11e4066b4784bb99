-- `Hops`: the lists of all nodes in one slice, the flags of the taken, and what the functions of step 2 leave.
pub mod Hops
