-- What `build` is lent, what it counts on once the table has passed, and what it leaves.
pub mod Build
