-- An Interval's details.
pub mod Details
