-- The proofs, each after those that it uses; * marks those that the proofs of functions use.

-- What is put together of grammars is one, rows by induction on their bound and on their items
pub mod Grammars
-- One token, what it begins with, and what that is apart from
pub mod Leaves
-- The forms that productions are made of
pub mod Productions
-- Lists of items, and how far a list of items goes, by induction on the items
pub mod Lists
-- * A loop over items reads what `repeat` reads
pub mod Loops
-- The definitions so far are those of the tokens so far; one tree or none, by induction on a bound on the tokens left
pub mod Files
