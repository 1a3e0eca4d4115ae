-- Reports, and the answer that is due.

-- What was told goes on to a whole report, and what an image may tell its text may tell.
pub mod Going
-- What is due to a script, by how its run ended.
pub mod Ends
-- What the top call's statuses say of the due answer.
pub mod Statuses
-- What is reported of a program whose script's source fails.
pub mod CutRuns
-- What is due to a text that is assembled.
pub mod Images
-- What is due to a text that is run.
pub mod TextRuns
-- What is due to a number.
pub mod Generated
-- What is due to a program that is run, by how it is written.
pub mod Programs
