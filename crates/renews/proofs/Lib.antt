-- `Laws`: entries gathered by their pairs. `Puts`: new and old lists written to their words. `All`: those of all nodes.
pub mod Laws
pub mod Puts
pub mod All
