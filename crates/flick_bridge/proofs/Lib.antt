-- The proofs, each after those that it uses; * marks those that the proofs of functions use.

-- * The element at a place of a list of plain trees is that of the list
pub mod Plainly
-- What follows the head of a message is the body that was sent: to set the size changes nothing behind it
mod Bodies
-- * The message that a bridge makes of a request asks the same, and a line has one answer
pub mod Passing
-- * What an end of a bridge reads, pairs and writes, by what its engines answer
pub mod Reading
-- * What a bridge answers, by what its gateway passes on
pub mod Answering
-- Lines are bridged the same between bindings of one unit over the same back ends
pub mod Alike
