-- `Laws`: the exact lists written one behind the other.
pub mod Laws
