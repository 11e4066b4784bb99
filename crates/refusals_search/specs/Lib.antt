-- `Given`: what the list of cases says. `Left`: what became of the lent places. `Texts`: the line of a call.
pub mod Given
pub mod Left
pub mod Texts
