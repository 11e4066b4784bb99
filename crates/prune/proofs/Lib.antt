-- `Laws`: the laws of the choice, over plain lists.
pub mod Laws
