-- `Table`: which row decides. `Steps`: the steps one behind the other, and the whole call.
pub mod Table
pub mod Steps
