-- `Laws`: one turn and the end of each loop over a text. `Worked`: small texts, worked by computation.
pub mod Laws
pub mod Worked
