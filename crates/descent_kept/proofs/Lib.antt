-- `Back`: a descent read back from its encoding. `Tested`: the test of a lent state holds exactly of the encodings of well-formed descents.
-- `Lists`, `Contexts`: what updates, draws and shuffles keep. `Kept`: begin and an iteration leave a well-formed descent. `Calls`: on the lent numbers.
pub mod Back
pub mod Tested
pub mod Lists
pub mod Contexts
pub mod Kept
pub mod Calls
