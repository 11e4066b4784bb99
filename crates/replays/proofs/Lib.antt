-- `Laws`: one turn and the end of the loop over our numbers.
pub mod Laws
