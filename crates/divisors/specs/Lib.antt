-- The smallest divisor of a polynomial: definitions in `Smallest` and `Level`, laws in the rest, and some numbers in `Examples`.
pub mod Ideals
pub mod Smallest
pub mod Level
pub mod Splitting
pub mod Lowest
pub mod Quotient
pub mod Peeling
pub mod Examples
