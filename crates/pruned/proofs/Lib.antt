-- `Laws`: the row of one node. `All`: the rows of all nodes.
pub mod Laws
pub mod All
