-- Laws of the loops over lent places and over what is put on a page, and of a run that is read; the loop over a list's cases.
pub mod Laws
pub mod Turns
