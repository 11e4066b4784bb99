-- `Lists`, `Jobs`: well-formed lists and jobs. `Stages`: steps and reports of jobs. `Kept`: a move keeps a relay well formed. `Tested`: the test of a lent
-- state holds exactly of the encodings of well-formed relays. `Opening`: open leaves one. `Calls`: no order of moves is refused.
pub mod Lists
pub mod Jobs
pub mod Stages
pub mod Kept
pub mod Tested
pub mod Opening
pub mod Calls
