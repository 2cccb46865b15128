pub mod OperationSpelling
pub mod OperationReaders
pub mod InterfaceSpelling
pub mod InterfaceReaders
pub mod Derivation
pub mod DefinitionReaders
