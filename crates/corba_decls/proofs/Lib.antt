-- The proofs, each after those that it uses; * marks those that the proofs of functions use.

-- * One level of a type
pub mod Steps
-- Types that are not sequences: what is read is what is spelled
pub mod BasesRead
-- * Types: what is read is what is spelled, by induction on the levels
pub mod SequencesRead
-- * Declarators, members, and what is made of them: what is read is what is spelled
pub mod MembersRead
-- The types of discriminators and of constants: what is read is what is spelled
pub mod TagsRead
-- Unions: what is read is what is spelled
pub mod UnionsRead
-- * Typedefs, constants and declarations: what is read is what is spelled
pub mod DeclarationsRead
