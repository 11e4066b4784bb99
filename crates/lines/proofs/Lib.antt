-- Laws of steps over a text; where ends and words stand; what a decimal is; worked words; a choice of two.
pub mod Choice
pub mod Laws
pub mod Places
pub mod Nearest
pub mod Worked
