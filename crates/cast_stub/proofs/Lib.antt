-- The proofs, each after those that it uses; * marks those that the proofs of functions use.

-- * What is appended to octets that stand around a piece, and what is left of them
pub mod Around
-- * A code after a code, and an operation as a piece before others, by induction on the first code
pub mod Appending
-- * A receive code after a receive code, and an operation as a piece before others, by induction on the first code
pub mod RecvAppending
-- * One operation more after a code
pub mod Adding
-- Code from an operation on
pub mod Codes
-- * A copy for the whole is the same, by induction on the list of puts
pub mod Copied
-- Each operation as a piece of a block
pub mod Pieces
-- The octets of numbers that words can hold, and octets that fill a chunk
pub mod Putting
-- Widths of 1, 2, 4 and 8 octets
pub mod Widths
-- The octets of a number of a kind, as code puts them
pub mod RowWords
-- A chunk has as many octets as it says, by induction on its puts and cells
pub mod Filled
-- Octets of which four are written anew are as many
pub mod Patched
-- Code that puts a number of the head, and the heads that it is covered for
mod Covering
-- * The calls that are run: of blocks in turn, without ensures, and of code without calls, by induction on the code
pub mod Entering
-- * What steps after steps write and cost, and room that is more than enough, by induction on the steps
pub mod Folding
-- Code that goes through a type: a child's own code, and no row operation, by induction on the type
pub mod Followed
-- * A part's code on the whole, by induction on the code
pub mod Rebasing
-- What is done to a part of a draft is done to the whole, with the part put back, by induction on the path to the part
pub mod RecvParts
-- Each operation that receives as a piece of a block
pub mod RecvPieces
-- * Code that receives, made for a part, on the whole, by induction on the code
pub mod RecvRebasing
-- * Tests before a run change neither what it gives nor where it ends, and are added, by induction on code and calls
mod RecvTests
-- Code without row operations gives no row as a block, by induction on the code and the depth of calls
pub mod Rowless
-- Rows worked by hand: what single codes do with single values
pub mod Worked
-- What code that sends and code that receives have in common, by induction on the operations
pub mod Trees
-- Code that sends and code that receives, as what they have in common
pub mod Directions
-- Lists in step, one member more of each, by induction on the lists
pub mod InStep
