-- Rows 9 and 10 of open's table.
pub mod Laws
