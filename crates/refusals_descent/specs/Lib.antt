-- `Given`: what the list of calls says. `State`: the state that a call is lent. `Outcome`: what a call says and leaves. `Left`: what became of lent places.
pub mod Given
pub mod State
pub mod Outcome
pub mod Left
