-- The demands on the desk: each theorem is a short citation of laws proved in the crates above.
pub mod Astray
pub mod Calls
pub mod Causes
pub mod Demand1
pub mod Demand2
pub mod Demand3
pub mod Division
pub mod Examples
pub mod Exports
pub mod Grades
pub mod Kept
pub mod Listed
pub mod Matrices
pub mod Performed
pub mod Refused
pub mod RefusedExports
pub mod Unreduced
