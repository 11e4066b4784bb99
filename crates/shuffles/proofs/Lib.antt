-- `Laws`: a list shuffled from its last place down, and what is kept of it.
pub mod Laws
