-- `Links`: room for the slots and the pool, and what step 5 leaves in their slices.
pub mod Links
