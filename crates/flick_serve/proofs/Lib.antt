-- The proofs, each after those that it uses; * marks those that the proofs of functions use.

-- * The first line of a text
mod Cutting
-- * The reply that a line gives: there is one, or none
pub mod Finding
-- * What a line adds to the replies so far
pub mod Taking
-- * What a line and a file give, by what was read of them
mod Filing
-- * What the lines of a text give, by those that are left
mod Reading
-- * What a file gives is determined, and is something, by induction on its lines
pub mod Deciding
-- * The answers by a table of replies are those by the file that gives them; each line has one, and one alone
pub mod Answering
-- * What becomes of the buffer where a line is answered: it is paid at least what the code of the reply costs
pub mod Paying
-- Files give the same, and lines are answered the same, over bindings of one unit over one back end
pub mod Alike
