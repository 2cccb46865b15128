-- The proofs, each after those that it uses; * marks those that the proofs of functions use.

-- Truth values, and choices by them
pub mod CompareBools
-- * Lists that loops go over, one step on
pub mod CompareLists
-- * What code makes of a set of residues is what it makes of each residue and of none, by induction on the code
pub mod CompareLinear
-- What is left of code from a set of residues is the same from another with the same residues below 8, by induction on the code
pub mod CompareAgree
-- Flats that are one list of numbers are one flat, by induction on the items
pub mod FlatTexts
-- * What a table makes of sets is what the function makes whose sets it lists
pub mod CompareTables
-- * What each operation puts, before what follows it
pub mod CompareOps
-- * What one more operation and one more body make of each set of a table
pub mod CompareLeads
-- * What rows, calls and patches put, before what follows them
pub mod CompareRows
-- * The octets of a chunk, laid one after the other, by induction on the places
pub mod CompareLaid
-- * Texts put one after the other
pub mod CompareTexts
-- What a switch puts, and to which residues it leads, body by body
pub mod CompareSwitch
-- The puts of a chunk have as many octets as it has, by induction on the puts and on the places
pub mod CompareCounts
-- * What is put of one more operation and of one more body, and of a whole operation with bodies
pub mod CompareArms
-- * The octets of puts, laid one after the other
pub mod CompareLaying
-- * Calls noted one after the other, by induction on the calls and on the list of nodes
pub mod CompareNoted
-- * What is put of the codes of a list, and of a code with its list
pub mod ComparePuts
