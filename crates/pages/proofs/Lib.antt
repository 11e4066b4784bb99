-- Laws of texts on a page, of a number's digits; worked texts.
pub mod Laws
pub mod Digits
pub mod Worked
