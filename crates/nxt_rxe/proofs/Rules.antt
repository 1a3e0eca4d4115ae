-- Which files are accepted, and the first broken rule of the others.

-- How a first fault is shown to be the refusal: one lemma for each rule, over what the tests before it have shown.
pub mod FirstBroken
-- A file breaks none of the rules of its sections.
pub mod Accepted
