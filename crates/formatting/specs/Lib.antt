-- What formatting makes of each area, by its length.
pub mod Formats
