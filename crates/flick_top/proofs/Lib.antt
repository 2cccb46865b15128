-- The proofs, each after those that it uses; * marks those that the proofs of functions use.

-- * Without faults and with little input the work is done and all is written, unless memory runs out
pub mod Completing
-- * An item has one answer
pub mod Determined
-- * One more item is answered
pub mod Turning
-- * Whatever ends a run, a prefix of the defined output was written
pub mod Prefix
-- * The lines that ended in the octets taken are those that were read where the source failed, by induction on the octets
pub mod Ended
-- * Lines that are read are items of the input that is cut into lines
pub mod GivenLines
-- * Parts of a stream that are read are items of the input that is cut into them
pub mod GivenParts
-- * What was given, whatever gives it, and what a call has done by its answer
pub mod Begun
-- * The messages of a stream as a cutting
pub mod Parted
-- * What is written under `pipe`, by the digits that a message is, or by a refusal
pub mod Piping
-- * What answers an item, by what answers a line or a part of a stream
pub mod Writing
-- * What is done of a task, however its work ends
pub mod Doing
-- * Each item has an answer
pub mod Existing
-- * A file's prefix of one octet more than its limit says what the whole file says
pub mod Front
-- * A text has a unit that is sound, or a report, and one alone, whatever its front end
pub mod UnitsOfFronts
-- A file says one thing; over a back end it comes to one report, or to engines that answer alike, with the same codes where these are
pub mod FilesSay
-- * What a file comes to with messages of two formats: engines of one unit, or what is said instead
pub mod Bridging
-- Texts are the same over engines that answer alike, by induction on the operations or on the number of messages
pub mod TwinTexts
-- * The words have one output over the files, by induction on the input's items
pub mod Outputs
-- * What was written begins the one output of the words, whatever became of a run
pub mod Opening
-- * Which end of the work a status tells
pub mod Stops
-- * Which commands end as the reading of an input does
pub mod Reading
-- * What is prepared is what the words come to
pub mod Tasking
-- * All words and files have a task
pub mod Tasks
-- * Where replies are sent the engine has the codes of replies
pub mod Coding
-- * The engine that a command leaves of its file
pub mod Leaving
-- * What an action comes to over what was made of a file is what its command comes to
pub mod OverFiles
-- * The numbers of words
pub mod Digits
-- * A server answers lines by the replies that the text of a file gives, or a wrong line of it is said
pub mod Servers
