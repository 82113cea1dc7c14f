-- The sweeping step in the order of the paper's sections 4.3 and 4.5.
pub mod Order
