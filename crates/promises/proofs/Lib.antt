pub mod Demand1
pub mod Grades
pub mod Performed
pub mod Refused
pub mod Unreduced
