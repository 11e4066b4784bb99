-- `Laws`: what the four steps come to. `Formed`: each keeps a list well formed. `Slices`: what the functions leave.
pub mod Laws
pub mod Formed
pub mod Slices
