-- The proofs, each after those that it uses; * marks those that the proofs of functions use.

-- What is put together of grammars is one, repeated ones by induction on the number of items
pub mod Grammars
-- A number of a width is read as it is written
pub mod Words
-- The numbers of words one after the other, by induction on how many they are
pub mod RowWords
-- A scalar is a word that is one of its numbers
pub mod ScalarGrammar
-- Scalars by themselves are grammars
pub mod LoneGrammar
-- Parts of heads are grammars
pub mod HeadItems
-- Descriptors of arrays are a grammar, and what is sent is one
pub mod DescribedGrammar
-- Counts, rows and texts are grammars, and the zeros after them, by induction on how many there are
pub mod ArrayGrammar
-- Every type is a grammar, by mutual induction on types, fields and arms
pub mod TypeGrammar
-- The laws, from reading being one function
pub mod Lawful
-- What is sent is a spelling, by mutual induction on types, fields and arms
pub mod Sent
-- * What is sent has at most 16 octets for each of the value's weight, by mutual induction on types, fields and arms
pub mod Short
-- What a table refuses leaves types whose values take room, by mutual induction on types, fields and arms
pub mod Sound
-- Each weighted part of a value begins at an octet, and few at one, by mutual induction on types, fields and arms
pub mod Room
-- * Octets that are a value make it one of the type, by mutual induction on types, fields and arms
pub mod Typing
-- * The laws, over each encoding
pub mod Encodings
-- What is read where octets begin with a value
pub mod Begins
-- * Nothing is sent exactly for types without octets, by mutual induction on types and fields
pub mod Hollow
-- Octets worked out by hand: the laws alone would hold of other formats too
mod Worked
-- Octets that are read, worked out by hand: the first fault and its place
mod WorkedFaults
-- Short descriptors worked by hand
pub mod DescriptorRows
