-- `Lists`: one of the lists of a state changed. `Laws`: an update, and a pair that meets.
pub mod Lists
pub mod Laws
