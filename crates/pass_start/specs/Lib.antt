-- The colours as a pass starts.
pub mod Starting
