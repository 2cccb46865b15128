-- The proofs, each after those that it uses; * marks those that the proofs of functions use.

-- Code whose calls are replaced has no call, by induction on the depth of calls and the code
mod Free
-- Code whose calls are replaced makes the same steps, by induction on the depth of calls and the code
mod Same
-- Blocks after blocks, and for parts of parts, by induction on the block
pub mod Blocks
-- Code that goes through a type goes through it with its calls replaced, by induction on the type
pub mod Followed
-- * The code that is given, as the code of a number with its calls replaced
pub mod Whole
-- Sorts of rows and texts, and code with rows as blocks, worked by hand
mod WorkedRows
-- * What is made of a block for a part, calls put in their place: of blocks after blocks, and of the bodies of a switch
pub mod Emitting
-- Numbers that a loop puts one by one, and the row's octets, by induction on the numbers
pub mod RowWords
-- Steps with stores that follow one another given as one row, by induction on the steps
pub mod Joined
-- Blocks after blocks, and for parts of parts, by induction on the block
pub mod RecvBlocks
-- * What is made of a block that receives for a part, calls put in their place: of blocks after blocks, of bodies of a switch
pub mod RecvEmitting
-- Code that goes through a type goes through it with its calls replaced, by induction on the type
pub mod RecvFollowed
-- Code whose calls are replaced has no call, by induction on the depth of calls and the code
pub mod RecvFree
-- How often was tested before changes neither what operations give nor where they end
pub mod RecvTimed
-- Numbers that are received one by one, and the same as a row, by induction on how many there are
pub mod RecvLine
-- * One operation that receives more, or what replaces it
pub mod RecvRowEmitting
-- Drafts of types, and operations that keep their types
pub mod RecvTyped
-- How wide the numbers of each sort are
pub mod Sorted
-- Code with its rows as blocks makes the given steps, the stores of a row as one, by induction on the code
pub mod RowSteps
-- Code with its rows as blocks gives what the given code gives, but for how often it tests, by induction on the code
pub mod RecvSteps
-- * Code that the pass takes has loops of the one shape, whatever is ensured between, by induction on type and code
pub mod RowReady
-- * What the pass promises, of code that receives and is the given one with its rows as blocks
pub mod RecvRowWhole
-- * Bodies in step with arms, as a switch; blocks that receive and are ready, by induction on the arms and the block
pub mod RecvRowsInStep
-- Code whose calls are replaced gives the same, by induction on the depth of calls and the code
pub mod RecvSame
-- * Codes that receive, and go through the types of a table, have few levels, by induction on the type
pub mod RecvShallow
-- * The code that is given, as the code of a number with its calls replaced
pub mod RecvWhole
-- Code with its rows as blocks gives one row for each row or text of that sort, by induction on the type
pub mod RowCounts
-- * What is known by the type at a path; how operations are seen
pub mod RowEmitting
-- Code that goes through a type has no own ensures, so what `hoist` makes of it is taken, by induction on the type
pub mod RowGiven
-- * What the pass promises, of code that is the given one with its rows as blocks
pub mod RowWhole
-- * Bodies in step with arms, as a switch; blocks that are ready, by induction on the arms and the block
pub mod RowsInStep
-- * Operations and bodies taken from the first on, whose rows are made blocks
pub mod RowsTaken
-- * Codes that go through the types of a table have few levels, by induction on the type
pub mod Shallow
