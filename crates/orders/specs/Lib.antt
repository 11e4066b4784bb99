-- `Demand3`: what is proved of the relay, under the demand's own sentences. `Least`: the least k, said without a sort. `Runs`: a sequence of moves.
-- `Steps`: a look and a pop, and the offers that a list waits for. `Updates`: what is proved of an iteration's updates.
pub mod Steps
pub mod Runs
pub mod Least
pub mod Demand3
pub mod Updates
