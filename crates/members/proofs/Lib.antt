-- `Laws`: a context list in its words. `Contexts`: contexts told by their lists.
pub mod Laws
pub mod Contexts
