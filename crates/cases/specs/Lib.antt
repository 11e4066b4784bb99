-- `Text`: what the text of a list says, number by number.
pub mod Text
