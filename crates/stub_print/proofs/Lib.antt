-- The proofs, each after those that it uses; * marks those that the proofs of functions use.

-- * Numbers in decimal: those of std, and what they tell, by induction on a bound of the number
pub mod Numerals
-- * Texts put one after the other
pub mod Putting
-- * Octets in pieces, in hexadecimal digits
pub mod Hexed
-- * What octets tell: lines of words, and in words numbers, paths, orders and octets
pub mod Read
-- * The text of code of either direction: what it is made of, and how an operation with bodies is put
pub mod Texts
-- * The texts of code that sends and of code that receives, as what they have in common
pub mod BothTexts
-- What lines tell of code of either direction, from the last to the first, by induction on puts or gets and on codes
pub mod Frames
-- * The text of code that receives tells its name and the code, by mutual induction on code and cases
pub mod RecvRead
-- * The text of code that sends tells its name and the code, by mutual induction on code and cases
pub mod SendRead
