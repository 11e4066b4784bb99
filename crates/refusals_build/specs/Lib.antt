-- `Given`: what the list of cases says. `Left`: what became of the lent places where a call is refused. `Texts`: the line of a call.
pub mod Given
pub mod Left
pub mod Texts
