-- The proofs, each after those that it uses; * marks those that the proofs of functions use.

-- Names, values and types: what is read is what is spelled
pub mod TypesRead
-- Declarations: what is read is what is spelled
pub mod DeclarationsRead
-- Enums and structs: what is read is what is spelled
pub mod StructuresRead
-- Unions: what is read is what is spelled
pub mod UnionsRead
-- Programs: what is read is what is spelled
pub mod ProgramsRead
-- * Definitions: what is read is what is spelled
pub mod DefinitionsRead
-- * Files of ONC definitions, which are a grammar and begin with words of their own
pub mod Fronts
