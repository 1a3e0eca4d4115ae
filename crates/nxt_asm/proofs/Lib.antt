-- What is found in a program's types and measures together.
mod CountedTogether
-- The footprint, counted step by step.
mod CountedSteps
