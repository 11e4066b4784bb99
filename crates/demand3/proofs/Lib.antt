-- `Calls`: what each call's contract says of the rules. `Demand3`: the theorem.
pub mod Calls
pub mod Demand3
