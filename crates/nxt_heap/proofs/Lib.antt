-- Where blocks begin.
mod Begins
-- Parts of a pool.
mod Windows
-- Lists and free rows that stay.
mod ListsKept
-- A pool whose blocks moved.
mod AfterMoves
-- Blocks begin at words.
mod WordPlaces
-- A pool without gaps, and one that settled.
mod Settled
-- Blocks that settle one after another.
mod Settling
-- The place below which no hole begins that holds so many bytes as were sought.
mod Searched
-- A block that moves to where no other one has a byte.
mod IntoHole
-- Room behind a block, where all gaps closed.
mod Slid
-- Room for a row's block.
mod Rooms
-- A pool where one row's list has other bytes.
mod OneRow
-- A list that has another number of bytes.
mod Lengthened
pub mod Laws
-- A list that has no bytes any more.
mod Emptied
-- A list that is given another length, once its block has room.
mod AfterRoom
-- Free rows, and a row that is freed or taken.
mod FreeRows
mod Chained
-- The table gets a row more.
mod RowAdded
-- Bytes that are stored.
mod Stored
-- A table whose rows are all free.
mod AtStart
mod WholeStored
-- What callers see of a pool.
mod Seen
-- What callers see of a heap where one list changes.
mod Changed
-- The front of the pool, to the end of the last block.
mod Dumped
-- Where a pool is open, by its blocks.
mod Open
-- Room for a row's block is made where it moves least.
mod Needs
-- A list that gets no longer.
mod Shorter
-- The rows of a table, and the chain of those without a list.
mod Tabled
