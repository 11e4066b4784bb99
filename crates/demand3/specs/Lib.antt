-- `Relayed`: a relay that was opened, moved and closed by calls, and what was handed back.
pub mod Relayed
