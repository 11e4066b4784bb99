-- A search's walk in lent scratch.
pub mod Walks
