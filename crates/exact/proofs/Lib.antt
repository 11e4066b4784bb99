-- `Laws`: the laws of step 1, over plain lists. `Eights`: the distances of eight nodes at once.
pub mod Laws
pub mod Eights
