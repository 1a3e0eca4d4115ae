-- Where the last of some blocks ends.
use Rattle.std.proofs.Common.{◌≡◌, ℕ, ◌+◌, ◌≤◌, Bool, cond, nat_lt, List, [], ◌∷◌, sum_by, inl, inr, refl, sym, ap, ◌∙◌, arith, lt-ltb, le-ltb}
use Rattle.std.specs.Prelude.{fold, max}
use Rattle.std.proofs.lemmas.Bool.{cases_lt}
use Rattle.nxt_facts.proofs.Sums.{total, total_is}
use Rattle.nxt_model.specs.Dump.{greatest_end}
use Rattle.nxt_model.specs.Reading.{Block}

abbrev greatest_from : ℕ → List Block → ℕ
greatest_from start blocks = fold (λ most b. max most (b.place + b.bytes)) start blocks

-- a block that ends behind a place
abbrev one_if : Bool → ℕ
one_if t = cond t 1 0

abbrev behind : ℕ → Block → ℕ
behind e b = one_if (nat_lt e (b.place + b.bytes))

not_behind : (e : ℕ) (b : Block) → b.place + b.bytes ≤ e → behind e b ≡ 0
not_behind e b low = elim (cases_lt e (b.place + b.bytes)) [
  | inl less ↦ absurd (omega (arith, low, less))
  | inr most ↦ ap one_if (le-ltb e (b.place + b.bytes) most)
]

start_below : (xs : List Block) (start : ℕ) → start ≤ greatest_from start xs
start_below [] start = omega arith
start_below (x ∷ xs) start = omega (arith, start_below xs (max start (x.place + x.bytes)))

none_behind : (xs : List Block) (start e : ℕ) → greatest_from start xs ≤ e → total (behind e) xs ≡ 0
none_behind [] start e most = refl
none_behind (x ∷ xs) start e most =
    omega (arith, not_behind e x (omega (arith, start_below xs (max start (x.place + x.bytes)), most)), none_behind xs (max start (x.place + x.bytes)) e most)

ends_by : (xs : List Block) (start e : ℕ) → start ≤ e → total (behind e) xs ≡ 0 → greatest_from start xs ≤ e
ends_by [] start e low none = low
ends_by (x ∷ xs) start e low none =
    elim (cases_lt e (x.place + x.bytes)) [
      | inl less ↦ absurd (omega (arith, none, ap one_if (lt-ltb e (x.place + x.bytes) less)))
      | inr most ↦ ends_by xs (max start (x.place + x.bytes)) e (omega (arith, low, most)) (omega (arith, none))
    ]

no_later : (xs ys : List Block) → ((w : Block → ℕ) → sum_by w xs ≡ sum_by w ys) → greatest_end xs ≤ greatest_end ys
no_later xs ys same =
    let e = greatest_end ys in
    ends_by xs 0 e (omega arith) (sym (total_is (behind e) xs) ∙ same (behind e) ∙ total_is (behind e) ys ∙ none_behind ys 0 e (omega arith))

-- blocks of which as many end behind each place
pub same_end : (xs ys : List Block) → ((w : Block → ℕ) → sum_by w xs ≡ sum_by w ys) → greatest_end xs ≡ greatest_end ys
same_end xs ys same =
    omega (arith, no_later xs ys same, no_later ys xs (λ w. sym (same w)))
