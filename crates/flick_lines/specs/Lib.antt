pub mod Counted
pub mod Marshalled
pub mod Paid
pub mod Sent
pub mod Unmarshalled
pub mod Usual
pub mod Verbs
