-- `Laws`: rows in two slices, over plain lists.
pub mod Laws
