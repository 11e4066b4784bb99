-- Whether lists are well formed, from the front on.
pub mod Laws
