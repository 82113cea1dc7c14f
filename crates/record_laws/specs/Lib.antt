-- Laws about log records: what a sound one says, a log with one more record, and the pages that records name.
pub mod RecordLaws
pub mod EffectLaws
pub mod SoundRecords
pub mod NamingLaws
