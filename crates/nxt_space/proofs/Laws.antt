-- What the crates above may use: laws of the variables.

-- The size of the variables with another value for a part.
pub mod PartSizes
-- Sound variables are sound with a number stored in them.
pub mod NumberSet
-- Variables with another value for one of them.
pub mod Variables
-- What an entry names among members: a part of the first, or of those behind it.
pub mod Members
-- A number takes no bytes of a list.
pub mod NoBytes
-- Numbers that are stored by their words.
pub mod Words
-- Numbers that stand in bytes one behind another.
pub mod InBytes
-- What stays where it is in the pool.
pub mod Keeping
-- Lists of numbers whose bytes are joined and cut.
pub mod JoinedBytes
-- What a dump would show behind a bytecode or a compaction.
pub mod Obeying
-- The blocks of a pool, by its rows and by its lists.
pub mod Counted
-- Where the last of some blocks ends.
pub mod Ends
-- The pool of a heap that holds the variables reads as these.
pub mod Held
-- What a pool reads as, where it holds a heap that holds the variables.
pub mod Reads
-- A dump of the pool is right for the variables.
pub mod Right
-- A heap without lists is filled with the variables of the start.
pub mod StartFilled
-- What an accepted file tells of its variables at the start.
pub mod OfFile
