pub mod Classing
pub mod Spans
pub mod Laws
