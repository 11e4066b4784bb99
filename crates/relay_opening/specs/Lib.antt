-- What `open` is lent, and what it leaves.
pub mod Opening
