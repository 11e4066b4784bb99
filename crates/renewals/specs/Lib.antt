-- What renewing every context counts on, and what it leaves.
pub mod Renewals
