pub mod Contacts
pub mod Listing
pub mod Order
