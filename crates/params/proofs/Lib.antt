-- What is proved of the parameters, beside the functions.
pub mod Setters
