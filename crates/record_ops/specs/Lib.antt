-- What a record may ask of a page area, and the pages that the last records name.
pub mod InRange
pub mod Naming
