-- `Laws`: what is written, list by list. `Whole`: the whole state.
pub mod Laws
pub mod Whole
