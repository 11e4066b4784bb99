-- `Distances`: the distance of two nodes of a game is symmetric and fit. `Different`, `Rising`: lists that hold no node twice, and entries in order. `Exact`: facts of an exact list.
-- `Parts`, `Once`, `Rows`: parts put back, steps that keep a row without a node twice, facts of a build's rows.
-- `WalksLists`, `WalksBest`, `WalksVisits`, `Walks`, `WalksCall`: lists, the best set and visits of a search, and what it leaves. `Descents`: facts of a descent.
pub mod Distances
pub mod Different
pub mod Rising
pub mod Exact
pub mod Parts
pub mod Once
pub mod Rows
pub mod WalksLists
pub mod WalksBest
pub mod WalksVisits
pub mod Walks
pub mod WalksCall
pub mod Descents
