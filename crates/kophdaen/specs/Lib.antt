-- What a C function answers where its answer is settled by what holds of it.
pub mod Wholeness
