pub mod Files
pub mod Checked
pub mod Laws
