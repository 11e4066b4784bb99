-- `Halves`: one half of a job. `Laws`: the words of a job.
pub mod Halves
pub mod Laws
