-- `Kinds`: the place behind a case of each kind, and behind its parts.
pub mod Kinds
