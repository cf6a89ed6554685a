-- The full set of matrices as text: definitions in `Matrices`, `Orders` and `Answers`, laws in the rest.
pub mod Matrices
pub mod Orders
pub mod Answers
pub mod Blocks
pub mod CommonLines
pub mod Entries
pub mod Turned
pub mod Figure
pub mod Counting
pub mod Putting
pub mod Comparing
pub mod Judging
pub mod Exact
pub mod Places
pub mod Calls
pub mod Examples
