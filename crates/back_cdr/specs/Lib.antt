pub mod Targets
pub mod Leads
pub mod Coded
pub mod Seeking
pub mod Laws
pub mod Offered
pub mod Names
