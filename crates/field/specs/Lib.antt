-- The field that f defines: definitions in `Field`, `Accepted`, `Refusals`, `Answers`, both in `Judged`, laws in the rest.
pub mod Field
pub mod Accepted
pub mod Refusals
pub mod Judged
pub mod Answers
pub mod Ring
pub mod Frobenius
pub mod Division
pub mod Trace
pub mod Roots
pub mod ConjugateSums
pub mod Fermat
pub mod Divided
pub mod CommonDivisors
pub mod Orders
pub mod Checked
