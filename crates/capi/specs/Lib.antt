-- The numbers that the calls for C and Rust hand out.
pub mod Answers
