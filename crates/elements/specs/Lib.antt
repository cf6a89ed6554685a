-- One element of a field, by tables made once: definitions in `Fields`, `Reference`, `Units` and `Decided`; the other files have laws, and open with
-- what they define.
pub mod Fields
pub mod Squares
pub mod Traces
pub mod Units
pub mod Multiples
pub mod Windows
pub mod Reference
pub mod Through
pub mod Upper
pub mod Ones
pub mod Held
pub mod Built
pub mod Decided
