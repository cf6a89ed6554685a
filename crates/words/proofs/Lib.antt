-- What ties the definitions to the calls of std that read digits and cut words.
pub mod Worth
pub mod Narrowed
pub mod Cut
