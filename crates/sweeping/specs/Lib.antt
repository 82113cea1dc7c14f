-- A sweeping step over the lists that it reads and writes.
pub mod Sweeps
