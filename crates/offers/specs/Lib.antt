-- `Sound`: slots that can be linked, and room for a row and its pool.
pub mod Sound
