-- Laws of steps over a game's file; small files; what holds of every game that is read, and that it is read to its end.
pub mod Laws
pub mod Worked
pub mod Results
pub mod Kept
pub mod Ends
