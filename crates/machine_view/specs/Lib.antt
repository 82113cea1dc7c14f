-- Page areas read as the collector machine's objects. This serves the proof of demand 3; its claim never mentions it.
pub mod View
