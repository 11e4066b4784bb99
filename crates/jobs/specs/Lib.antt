-- What is tested of the words of a job, and what is counted of it.
pub mod Jobs
