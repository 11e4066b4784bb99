-- `Page`: bytes on a lent page, and a number's digits.
pub mod Page
