-- `Perm`: rearranged lists. `Laws`: of `insert`, `sort` and `least`. `Slices`: of a list in two slices. `Plain`: of a fact of each of a list, and of plain lists.
pub mod Perm
pub mod Laws
pub mod Slices
pub mod Plain
