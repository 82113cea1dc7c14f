-- The soundness of a page in the terms that the code works in.
pub mod SoundLaws
