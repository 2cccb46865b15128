-- The proofs, each after those that it uses; * marks those that the proofs of functions use.

-- One operation more after a code
pub mod Adding
-- Code of chunks alone is a lead, and takes no step of a call, by induction on the code
pub mod Chunks
-- When a run gives what a reader gives
pub mod Agreeing
-- * Code that is made piece by piece
pub mod Building
-- The octets of a number, as a put stores it and as it is sent
pub mod Words
-- What steps append, piece by piece
pub mod Writing
-- What an encoding's leaves append: a scalar, a count, an array
pub mod Encoded
-- What the leaves of CDR append: numbers after their alignment, texts that end, rows
pub mod Cdr
-- A run that gives what the reader gives is exact
pub mod Exact
-- The code of a node goes through its type in order
pub mod Following
-- What an encoding's leaves read: a scalar, a count
pub mod RecvEncoded
-- Units of Mach messages, and so many elements of so many octets
pub mod UnitLaws
-- What the code of a row or text reads, and that of XDR
pub mod RecvArrays
-- What the leaves of CDR read: numbers after their alignment, texts that end, rows
pub mod RecvCdr
-- What the code of a row or text reads over CDR
pub mod RecvCdrArrays
-- What an item of a Mach message reads
pub mod RecvItems
-- What the leaves of Mach messages append: items, descriptors, rows and texts
pub mod Mach
-- Where a scalar by itself passes a test: over each encoding the test may as well come last
pub mod RecvPass
-- The code of a node reads its values, over those of its parts
pub mod Receiving
-- * Code that receives, made piece by piece
pub mod RecvBuilding
-- What the descriptors of rows and texts of Mach messages read
pub mod RecvDesc
-- What the code of a row or text reads in a Mach message
pub mod RecvMach
-- The code of a node that receives goes through its type in order
pub mod Tracing
-- The code of a node sends its values, over those of its parts
pub mod Sending
-- * The codes of the first nodes of a table, and of all of them, in code of either direction, by induction on the node's number
pub mod Tables
-- * The codes of a whole table, by induction on the depth of calls and the node's number
pub mod Whole
-- * The codes of a whole table that receive, by induction on the depth of calls and the node's number
pub mod RecvWhole
-- * Calls for fields and for arms, in code of either direction, by induction on the fields and the cases
pub mod Calling
