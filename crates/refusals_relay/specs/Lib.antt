-- `Given`: what the list of cases says. `Left`: what became of the lent places. `Texts`: the lines of a move and of a close.
pub mod Given
pub mod Left
pub mod Texts
