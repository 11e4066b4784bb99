-- `Laws`: the loops that fill a slice. `Runs`: the calls of a whole relay. `Worked`: small orders, computed.
pub mod Laws
pub mod Runs
pub mod Worked
