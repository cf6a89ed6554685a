-- Polynomials over the two-element field as numbers: definitions in `Poly`, `Spread`, `Bounded` and `Limit`, laws in the rest.
pub mod Poly
pub mod Numbers
pub mod Truth
pub mod Sum
pub mod Product
pub mod Remainder
pub mod Degrees
pub mod Divisors
pub mod Bounded
pub mod Existence
pub mod Spread
pub mod SpreadRule
pub mod Euclid
pub mod Words
pub mod Steps
pub mod Raised
pub mod Limit
