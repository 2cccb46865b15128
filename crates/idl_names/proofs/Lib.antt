-- The proofs, each after those that it uses; * marks those that the proofs of functions use.

-- What is known of the parts of an answer
pub mod Parts
-- * Names and numbers in a set or a map of indexmap, as lists, by induction on the list
pub mod Tables
-- A loop's step along a list
pub mod Steps
-- Types after others, and what they leave as it is, by mutual induction on types, members and arms
pub mod Growing
-- Types that stay sound when others are put after them: numbers, texts, names, rows of these, by induction on the type
pub mod Plainness
-- Names and numbers that are different from those before them, by induction on the list
pub mod Different
-- What a type that is used stands for, over the types so far
pub mod Standing
-- Structs of sound fields are sound, by induction on the fields
pub mod Forming
-- Enums whose items were numbered are sound, and their labels are the numbers of their items
pub mod Numbering
-- Unions of sound arms are sound, by induction on the arms and on their numbers
pub mod Labelling
-- What a new type is as the tag of a union
pub mod Tagging
