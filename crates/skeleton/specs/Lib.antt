pub mod Exchanges
pub mod TableSkeleton
