pub mod Framed
pub mod First
pub mod Cut
pub mod Passed
pub mod Reading
pub mod Laws
