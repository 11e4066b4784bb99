-- `Areas`: what each write does to the areas of scratch. `Steps`: what each step leaves. `Sound`: n takings are enough. `Near`: an entry beyond the farthest best is passed over. `Expanding`: one node expanded.
pub mod Areas
pub mod Steps
pub mod Sound
pub mod Near
pub mod Expanding
