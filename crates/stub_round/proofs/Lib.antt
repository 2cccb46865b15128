-- The proofs, each after those that it uses; * marks those that the proofs of functions use.

-- * Sound code that is inlined and run
pub mod Received
-- * What stub code sends, stub code receives
pub mod Returning
-- Rows worked by hand: what single codes that receive give of single octets
mod Worked
