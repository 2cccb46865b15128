-- The proofs, each after those that it uses; * marks those that the proofs of functions use.

-- Where a word leads by a list of words, and what an edit of the list does to it
mod Leading
-- * What a search finds among words that rise, and what an edit at that place does
mod Searched
-- A name is decided by its length and its words, and its words are read one after another
mod Words
-- Where words lead in a tree, and what one more node changes
mod Walks
-- * The first node of a tree, and one more
mod Growing
-- * What a tree finds after a place is put, and the names from a place on that it finds
mod Finding
