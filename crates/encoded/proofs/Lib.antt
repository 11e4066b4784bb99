-- `Rows`: rows one behind the other. `Same`: words and floats that are found the same. `Lists`: lists read back. `Jobs`: jobs read back.
-- `Back`: a relay read back from its encoding. `Binary`: values of binary32 in lists made of such.
pub mod Rows
pub mod Same
pub mod Lists
pub mod Jobs
pub mod Back
pub mod Binary
