-- `Square`: what the settled squares are built of.
pub mod Square
