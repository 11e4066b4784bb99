-- `Games`: what the file of a game says, line by line.
pub mod Games
