-- `Laws`: what becomes of an offer at a row, and that slots stay sound.
pub mod Laws
