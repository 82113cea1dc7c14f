-- The working tables read as the collector machine's. This serves the proof of demand 3; its claim never mentions it.
pub mod Tables
