-- Areas of a lent buffer.
pub mod Area
