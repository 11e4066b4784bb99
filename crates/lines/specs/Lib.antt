-- `Words`: the ends, the words and the decimals of a game's text.
pub mod Words
