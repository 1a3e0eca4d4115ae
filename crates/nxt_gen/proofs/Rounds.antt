-- One round of a count that falls.
use Rattle.std.proofs.Common.{◌≡◌, ◌<◌, ◌+◌, ◌-◌, ◌∷◌, ◌++◌, ℕ, suc, ap, arith}
use Rattle.nxt_model.specs.declared.event.Event.TheVariants.{Compact}
use Rattle.nxt_model.specs.declared.event.ScriptRow.TheVariants.{Run, One}
use Rattle.nxt_gen.specs.Generator.{drawn_statements, repeated_rows, seed_behind, statements_from}

less_one : (n i : ℕ) → i < n → n - i ≡ suc (n - (i + 1))
less_one n i below = omega (arith, below)

pub statements_next : (n i x : ℕ) → i < n → statements_from (n - i) x ≡ drawn_statements x ++ statements_from (n - (i + 1)) (seed_behind x)
statements_next n i x below = ap (λ k. statements_from k x) (less_one n i below)

pub rows_next : (n i : ℕ) → i < n → repeated_rows (n - i) ≡ Run 6 ∷ One (Compact 1) ∷ repeated_rows (n - (i + 1))
rows_next n i below = ap repeated_rows (less_one n i below)
