-- `Laws`: the loops.
pub mod Laws
