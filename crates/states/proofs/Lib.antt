-- `Laws`: two lists in step. `Reading`: the loop that reads a state, and its parts one behind the other.
pub mod Laws
pub mod Reading
