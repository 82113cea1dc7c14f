-- A page by columns and back: a table laid out row by row.
pub mod Laying
