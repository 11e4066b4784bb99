-- `Distances`: what the facts ask of a distance. `Different`: no node twice. `Rising`: entries in order. `Exact`: facts of an exact list. `Rows`: facts of a build's rows.
-- `Walks`, `WalksCall`: what a search leaves. `Descents`: what the lists of a descent hold, and what an iteration costs.
pub mod Distances
pub mod Different
pub mod Rising
pub mod Exact
pub mod Rows
pub mod Walks
pub mod WalksCall
pub mod Descents
