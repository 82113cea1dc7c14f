-- Laws about page areas: what each change makes of them, and what a sound one says.
pub mod BitLaws
pub mod Runs
pub mod Places
pub mod Tables
pub mod ViewLaws
pub mod SoundFacts
