-- The first broken rule of clumps and code.

-- What no rule refuses is fit.
pub mod Fit
-- The dependents of clumps, taken one clump after another.
pub mod Dependents
