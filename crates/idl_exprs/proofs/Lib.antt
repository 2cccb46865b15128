-- The proofs, each after those that it uses; * marks those that the proofs of functions use.

-- * A loop over operators reads what `chain_on` reads
pub mod Chains
-- Identifiers, scoped names, literals and operators: what is read is what is spelled
pub mod LeavesRead
-- What is read of an expression is spelled, within the levels that it takes, by induction on levels and looseness
pub mod Within
-- An expression between `<` and `>` is not taken for what follows a type, by induction on the levels
pub mod Closing
-- What is spelled is read, by induction on levels and looseness
pub mod Again
-- What may follow an expression: a text that begins with a mark with which no expression goes on
pub mod Ending
-- * Expressions: what is read is what is spelled
pub mod ExpressionsRead
