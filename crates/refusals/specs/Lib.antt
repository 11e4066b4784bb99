-- `Junk`: what lent places hold before a call, and whether it stands. `Given`: a case's numbers and runs. `Texts`: the parts of a line. `Cases`: a list's cases, one behind the other.
pub mod Given
pub mod Junk
pub mod Texts
pub mod Cases
