-- `Lists`: what the functions leave in the two slices. `Ascending`: the words that the laws of lists are said in. `All`: a fact of each of a list.
pub mod Lists
pub mod Ascending
pub mod All
