-- `Laws`: the loops that change a state. `Calls`: a call from what its entry's contract says. `Worked`: small states, computed.
pub mod Laws
pub mod Calls
pub mod Worked
