-- `Laws`: one turn and the end of a loop over a text, and that nothing is passed behind a fault.
pub mod Laws
