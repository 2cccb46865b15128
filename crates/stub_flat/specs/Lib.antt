pub mod Places
pub mod Residues
pub mod Leaves
pub mod Items
pub mod Flat
pub mod Laws
