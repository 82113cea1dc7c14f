-- A page by columns, and the two calls that arrange it.
pub mod Columns
pub mod ColumnCalls
