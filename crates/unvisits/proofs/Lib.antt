-- `Laws`: pairs unvisited, node by node.
pub mod Laws
