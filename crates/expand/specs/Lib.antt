-- A node expanded in lent scratch. `Areas`: the areas of scratch. `Steps`: what each step leaves. `Queue`: room for all that join it.
pub mod Areas
pub mod Steps
pub mod Queue
