-- The proofs, each after those that it uses; * marks those that the proofs of functions use.

-- * The arm that is found among the arms of a choice, by induction on the arms
pub mod Arms
-- * The image of a row whose numbers are octets is these octets, by induction on the numbers
pub mod Blocks
-- * Values that may be there
pub mod Options
-- * What a tree shows is what is read of it, by mutual induction on faces, their parts and their arms
pub mod Shown
-- * A value is well typed or it is not; so a tree presents a value or none, by mutual induction on types, fields, arms
pub mod Deciding
-- * Members of JSON trees, as the lists that the program walks, by induction on the members
pub mod Lookups
-- * One more field or element
pub mod Fields
-- * Items of arrays, one after the other, by induction on the items
pub mod Items
-- * The characters of a string, one by one
pub mod Letters
-- * Strings of ASCII characters are their own octets, by induction on the octets
pub mod Ascii
-- Numbers, items, texts and rows that are written are read, by induction on numbers, octets and items
pub mod WrittenScalars
-- * The tree that is written for a value shows it, by mutual induction on faces, their parts and their arms
pub mod Written
-- * The faces of nodes with their shapes have different names, by induction on the nodes
pub mod Naming
-- * Names and exceptions of operations, by induction on the list
pub mod Sources
-- * Strings that begin with the string of octets, and what comes after it
pub mod Passing
-- * Names and strings of ASCII, by induction on the octets
pub mod Plain
-- * Request records that are written are read back, by induction on the operations
pub mod ReadBack
-- * Values that are made, as they are seen
pub mod Seen
-- * The name of an item, as a string, by induction on the items
pub mod Texted
-- * Operations stand interface by interface, by induction on the interfaces
pub mod Homes
-- * Tokens that are written one after the other
pub mod Adding
-- * The members of fields at the places of their order, by induction on the order and on the names
pub mod FieldPlaces
-- * The tokens of a request record and the text that they are
pub mod RecordTokens
-- * Operations by their names and numbers, interface by interface, by induction on the operations of one
pub mod Seeking
-- * Integers of at most 64 bits that are read of the texts of numbers, by induction on the digits
pub mod UsualDigits
-- * Numbers, items, texts and rows that are read of tokens in the usual form
pub mod UsualTexts
-- * What is read of tokens of text in the usual form, by induction on items and on members
pub mod UsualReading
-- * Unions and optional values that are read of tokens in the usual form, by cases on what is there
pub mod UsualUnions
-- The members of request records in the usual form, by cases on what is there
pub mod UsualMembers
-- * Request records in the usual form
pub mod UsualRecords
-- Members that may be there, read one after the other, by induction on them
pub mod UsualNamed
-- * Reply records in the usual form
pub mod UsualReplies
