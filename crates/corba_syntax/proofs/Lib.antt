-- The proofs, each after those that it uses; * marks those that the proofs of functions use.

-- Parts that may be missing: what is read is what is spelled
pub mod PartsRead
-- * Attributes: what is read is what is spelled
pub mod AttributesRead
-- * Operations: what is read is what is spelled
pub mod OperationsRead
-- What an interface declares: what is read is what is spelled
pub mod ExportsRead
-- * Interfaces: what is read is what is spelled
pub mod InterfacesRead
-- * One level of a definition
pub mod Steps
-- * Definitions: what is read is what is spelled, by induction on the levels
pub mod DefinitionsRead
-- * Files, which are a grammar and begin with words of their own
pub mod Fronts
