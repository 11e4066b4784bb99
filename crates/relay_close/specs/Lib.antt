-- The entry `close`.
pub mod Close
