-- Masks of the PRT and the COT, one by one and in runs.
pub mod Entries
