-- `Files`: which files are read.
pub mod Files
