-- `Laws`: what a bit that is set or cleared leaves of the others, and words told by their bits.
pub mod Laws
