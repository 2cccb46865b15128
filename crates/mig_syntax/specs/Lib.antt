pub mod Words
pub mod Derivation
pub mod StatementReaders
