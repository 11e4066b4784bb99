-- `Laws`: a slice written from the front. `Places`: areas of a slice, when one is lent and comes back.
pub mod Laws
pub mod Places
