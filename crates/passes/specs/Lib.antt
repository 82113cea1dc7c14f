-- What a pass step asks of a store, and the step from its parts.
pub mod Stepping
