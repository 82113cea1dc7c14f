-- Maps of slots joined by bitwise and, and the slots that a sweeping step frees.
pub mod Maps
pub mod Freed
