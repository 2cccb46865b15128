-- The proofs, each after those that it uses; * marks those that the proofs of functions use.

-- * Each operation before what follows it
pub mod Pieces
-- What is known of positions: after octets, behind padding, and of two phases, by their remainders
pub mod Known
-- Chunks that become one: their octets are those of the first and then those of the second, by induction on puts and cells
pub mod Filled
-- Where a run of a block ends: at a place of what is left behind it, by induction on the block
pub mod Ending
-- Steps in the place of others from a position on: the same octets, no more room, the same steps besides, and no more stores
pub mod Keeping
-- Chunked code sends what the given code sends, with the room and the checks that it has, by induction on the block
pub mod Chunking
-- Chunked code has every other operation in its place, and runs the calls that the given code runs, by induction on the block
pub mod Skeleton
-- In chunked code at most seven chunks and aligns stand together: each align that is kept makes a greater multiple known
pub mod Shortness
-- Code whose runs are short moves as often as is allowed for them at most; chunked code is allowed no more, by induction on the block
pub mod Moves
-- * What is promised of chunked code, from what it is
pub mod Clauses
-- * What one more operation makes of code of either direction: operations in turn, the bodies of a switch, and what is left behind it
pub mod Bodies
-- * What one more operation makes of the code that is made so far
pub mod Making
-- * Lists that are made from the first member on of what is left of a list
pub mod Going
-- * Each operation that receives before what follows it
pub mod RecvPieces
-- Gets that stand further on read the same from an earlier place, and leave the place as it is
pub mod RecvMoved
-- Two runs from the same place, one of them after fewer tests, that end alike; and where a run ends. What is done with both
pub mod RecvFaring
-- Where a run of receive code ends: at a place of what is left behind it, by induction on the block
pub mod RecvEnding
-- Where the open take lacks octets, or one of its gets refuses, so does all that becomes of it, by induction on the block
pub mod RecvStuck
-- The open take and where the given code is: what closes it, and what goes on with it
pub mod RecvOpening
-- Chunked receive code gives what the given code gives, or refuses as it does, after no more tests, by induction on the block
pub mod RecvChunking
-- Chunked receive code has every other operation in its place, by induction on the block
pub mod RecvSkeleton
-- In chunked receive code at most seven needs and skips stand together: each skip that is kept makes a greater multiple known
pub mod RecvShortness
-- * What is promised of chunked receive code, from what it is
pub mod RecvClauses
-- * What one more operation makes of the receive code that is made so far
pub mod RecvMaking
