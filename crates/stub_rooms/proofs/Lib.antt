-- The proofs, each after those that it uses; * marks those that the proofs of functions use.

-- * Each operation before what follows it
pub mod CoversPieces
-- * Lists of eight: what they show is what is at the residues 0 to 7
pub mod RoomsEights
-- The lesser of rooms, and the least rooms of lists
pub mod RoomsLesser
-- * Turns one after the other, joined by the least rooms; where rooms come back, all later turns give rooms that were there
pub mod TurnsJoined
-- * What one more operation, one more body and one more lap do to residues
pub mod CoversLeading
-- * What one more operation, one more body and one more lap make of rooms
pub mod CoversGoing
-- * Code that ensures nothing, one operation and one body after the other
pub mod CoversPlain
-- * Loops as values, over the places that they have
pub mod CoversLoops
-- * A loop as the first of three ways that is not refused; joins with what may be there
pub mod CoversLooped
-- * The codes of a list, one after the other
pub mod CoversList
