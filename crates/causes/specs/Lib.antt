-- Causes: definitions in `Causes`, laws in the rest.
pub mod Causes
pub mod Behind
pub mod Differing
pub mod Cases
pub mod Reported
pub mod True
pub mod Operands
