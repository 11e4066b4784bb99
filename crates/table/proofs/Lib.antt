-- `Laws`: what the loops lean on. `Rows`: rows judged by a function of their own, in front of others.
pub mod Laws
pub mod Rows
