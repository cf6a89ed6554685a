pub mod Decision
pub mod Insertion
pub mod Inverses
pub mod Placing
