-- Text as bytes: lines, fields, and when two texts are the same.
pub mod Text
pub mod Same
pub mod Lines
pub mod Fields
pub mod Parts
pub mod Examples
pub mod Walk
pub mod SameLaws
pub mod FieldLaws
