pub mod Calls
pub mod Codes
pub mod Items
pub mod Leads
pub mod Lowered
pub mod RecvCodes
pub mod RecvLowered
