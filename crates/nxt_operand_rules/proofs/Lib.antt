-- Each test is answered by what is seen.
mod SeenTests
-- What is asked of an operand beside the others.
mod BesideOthers
