-- What is claimed of sets, records and pages with an object's own number.
pub mod Sets
pub mod OldOnes
