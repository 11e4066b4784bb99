-- `Laws`: the laws of step 2, over plain lists.
pub mod Laws
