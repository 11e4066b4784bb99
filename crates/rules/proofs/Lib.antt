-- What is proved of the rulebook. `Loops`: its loops in general; `Tests`: tests joined by "and" and "or"; `Tables`: rows and verdicts; `Places`: padding, flags
-- and members; `Distances`: totals stay binary32, and what a distance answer says; `Cosines`: zero over zero;
-- `Answers`: an answer from what it says; `Squares`: the settled squares; `SquareI`: the relay of I, job by job;
-- `Worked`: an iteration and a look that the Rust worked.
pub mod Loops
pub mod Tests
pub mod Tables
pub mod Places
pub mod Distances
pub mod Cosines
pub mod Answers
pub mod SquareI
pub mod Squares
pub mod Worked
