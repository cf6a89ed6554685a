-- Typed numbers: definitions in `Notation`, laws in the rest. `NumberMeaning`, `Joining` and `PolynomialMeaning` say what the
-- definitions mean; `Printed` says that a number that `io` prints is read back, `Shown` that one that std's formatting writes is.
pub mod Notation
pub mod Digits
pub mod Spelling
pub mod Parts
pub mod Exponents
pub mod NumberMeaning
pub mod Joining
pub mod PolynomialMeaning
pub mod Printed
pub mod Shown
pub mod Examples
