pub mod Bound
pub mod Hoisted
pub mod Laws
pub mod Pass
pub mod Regions
pub mod Rows
pub mod Seen
pub mod SpanSizes
