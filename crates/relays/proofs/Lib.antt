-- `Laws`: one turn and the end of the loop over our floats. `Places`: the places are LAYOUT's.
pub mod Laws
pub mod Places
