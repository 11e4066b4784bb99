-- `Sets`: the sets of jobs. `Tally`: how their orders came out. `Order`: seeded numbers, and orders of a relay's moves. `Run`: a whole relay by the rules of its calls.
pub mod Sets
pub mod Tally
pub mod Order
pub mod Run
