-- The entry `search`.
pub mod Search
