-- `Parts`: the tests of the parts. `Zeroed`: zeros, and values of binary32. `Reading`: what a relay is read from.
-- `Whole`: row 12 as facts, which give the tests. `Tested`: the tests give row 12.
pub mod Parts
pub mod Zeroed
pub mod Reading
pub mod Whole
pub mod Tested
