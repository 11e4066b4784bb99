-- `Words`: the words that the laws of encodings are said in.
pub mod Words
