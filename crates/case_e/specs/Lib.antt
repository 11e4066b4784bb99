-- `Square`: what square E searches.
pub mod Square
