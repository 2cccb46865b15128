pub mod Laws
pub mod Putting
pub mod RecvText
pub mod SendText
pub mod Words
