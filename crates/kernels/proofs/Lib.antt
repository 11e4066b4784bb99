-- `Laws`: the laws of the block. `Pairs`: pairs that are fit. `Fours`: four totals at once.
pub mod Laws
pub mod Pairs
pub mod Fours
