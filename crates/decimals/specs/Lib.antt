-- Numbers as decimal digits, read and written.
pub mod Digits
pub mod Numbers
pub mod Decimal
pub mod DecimalLaws
