pub mod Reading
pub mod Words
pub mod Leads
pub mod Operations
pub mod Stubs
