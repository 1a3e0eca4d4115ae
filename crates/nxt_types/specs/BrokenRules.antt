-- What a broken rule tells, as a list of numbers.
use Rattle.std.specs.Prelude.{ℕ, List, [], ◌∷◌}
use Rattle.nxt_types.specs.declared.refusal.BrokenRule.{BrokenRule}
use Rattle.nxt_types.specs.declared.refusal.Place.{Place}
use Rattle.nxt_types.specs.declared.refusal.Place.TheVariants.{Only, At, Pair}

abbrev pub place_numbers : Place → List ℕ
place_numbers Only = []
place_numbers (At n) = n ∷ []
place_numbers (Pair m n) = m ∷ n ∷ []

-- the rule's number, and the numbers of its place
abbrev pub rule_and_place : BrokenRule → List ℕ
rule_and_place b = b.rule ∷ place_numbers b.place
