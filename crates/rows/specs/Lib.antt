-- Matrices of bits as lists of rows: definitions in `Rows` and `Bits`, and in `ByteSums` those of sums by bytes; the other files have laws, and
-- open with what they define.
pub mod Rows
pub mod Linear
pub mod Sums
pub mod ByteSums
pub mod Doubling
pub mod Bits
pub mod Sharing
pub mod Pivots
pub mod Inverses
pub mod Added
pub mod Insertion
pub mod Placing
pub mod Decision
