-- A page's table of rows, read, changed and written back.
pub mod TableLaws
pub mod RoundTrip
pub mod Parts
