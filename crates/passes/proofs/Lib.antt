-- `Laws`: turns that each change a state, and the pairs of a pass as such turns. `Contexts`: the lists of a context in words.
pub mod Laws
pub mod Contexts
