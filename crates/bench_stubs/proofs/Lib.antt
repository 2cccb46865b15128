-- The proofs, each after those that it uses; * marks those that the proofs of functions use.

-- * That inlined code by itself may be hoisted, and its rows made blocks, and that it is then covered
mod Readying
