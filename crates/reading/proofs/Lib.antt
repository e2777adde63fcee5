-- The laws of readings.
pub mod Tests
pub mod Rows
pub mod Placed
pub mod First
pub mod Unique
pub mod Numbers
pub mod Found
pub mod Tabled
pub mod Buffer
pub mod Decide
pub mod Derived
pub mod Stands
pub mod At
pub mod Agree
pub mod Arrow
pub mod Depth
pub mod Within
