-- `Slots`: a row put back among the slots, and the turns of the links.
pub mod Slots
