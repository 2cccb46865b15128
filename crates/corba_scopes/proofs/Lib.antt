-- The proofs, each after those that it uses; * marks those that the proofs of functions use.

-- Rows worked by hand: names at a place in B of this file. const long x = 3; interface A { const long x = 1; const string s = "t"; }; module M { const long x = 2; interface B : ::A { .. }; };
mod Rows
-- What holds of everything that names stand for, by induction on the names
pub mod Standing
-- * Where the prefix of a full name ends: at its last dot, by induction on its octets
mod Cutting
-- * Parts of full names by their numbers, and full names by their keys, by induction on the parts
mod Parting
-- * The scopes of keys: the numbers of their prefixes, by induction on the keys
mod Scoping
-- * What is held by keys and numbers is what names have, by induction on what is held
mod Storing
