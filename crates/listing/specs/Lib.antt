-- Listings: definitions in `Text` and `Room`, laws in the rest.
pub mod Text
pub mod Room
pub mod Decimal
pub mod Putting
pub mod Lines
pub mod Listing
pub mod Examples
