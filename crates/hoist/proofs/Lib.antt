-- The proofs, each after those that it uses; * marks those that the proofs of functions use.

-- The parts of a value of a type are of the types of the parts, by induction on the path to the part
pub mod TypedParts
-- * A block appends at most its bound, by induction on the block
pub mod Bounds
-- Room for steps, by what they append, by induction on the steps
pub mod Rooms
-- * Hoisted code has room for all that it appends, by induction on the code
pub mod Covered
-- * Hoisted code ensures nothing within a loop over a row or text, by induction on the code
pub mod Sparse
-- * Hoisted code ensures each big row by the length of its list, by induction on the code
pub mod EnsuredRows
-- Groups of parts, by the octets that fill them, by induction on the list of parts
pub mod Grouping
-- What hoisted code ensures, weighed against groups of parts
pub mod Weighing
-- Code that goes through a type ensures nothing, and is bounded where the type is, by induction on type and code
pub mod Quiet
-- The way to a field, and bounds of code that goes through a type, by induction on the path and the type
pub mod Ways
-- What the code of a small part adds, by induction on its type
pub mod Light
-- What the parts of a type are, and where a row is pending
pub mod Standing
-- Hoisted code looks at the buffer at most once for each group of parts, by induction on the type
pub mod Heavy
-- * Bodies in step with arms, as a switch; blocks that are taken, by induction on the arms and the block
pub mod InStep
-- * Hoisted code makes the same steps, but for the room that it ensures, by induction on the code
pub mod Keeping
-- * The least of eight
mod Least
-- * Nodes of parts, and bounds of operations before others
pub mod Nodes
-- * Steps of the way to a part
pub mod OnWay
-- * One operation more before a reversed code
pub mod Reversed
-- * Operations put before code that was visited
pub mod Passing
-- * Operations that are visited from the last to the first
pub mod Visited
-- Plans by the roles of operations and the bounds of their bodies
pub mod Planned
-- * Spans are sizes that belong together, by induction on the type
pub mod SpanSizes
-- * Code between a lead and a patch, by induction on the lead
pub mod Sparing
-- * Code that goes through a type is taken, by induction on the type
pub mod Taken
-- * What the pass promises, of code that is the given one hoisted
pub mod Promised
-- * Code without row operations stays without them, by induction on the code
pub mod Rowless
-- Codes hoisted by hand, and regions counted by hand
pub mod Worked
-- Sizes over XDR, worked out by hand
pub mod WorkedSizes
-- Regions over CDR and in Mach messages, counted by hand
pub mod WorkedRegions
