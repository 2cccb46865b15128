-- The proofs, each after those that it uses; * marks those that the proofs of functions use.

-- * That hoisted code after a lead may be run, by induction on the lead's code and on the body's steps
mod Readying
