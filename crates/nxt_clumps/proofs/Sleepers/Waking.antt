-- Sleepers wake one by one as they do all at once.
use Rattle.std.proofs.Common.{◌≡◌, ℕ, ◌+◌, ◌<◌, Bool, true, false, if◌then◌else◌, List, [], ◌∷◌, ◌++◌, length, Some, None, refl, ap, sym, ◌∙◌, arith, inl, inr}
use Rattle.std.specs.Prelude.{nat_le}
use Rattle.std.proofs.lemmas.Bool.{cases_Bool, leb-true, leb-false, lt-leb, le-leb}
use Rattle.nxt_model.specs.Clumps.{Activity, Idle, Queued, Asleep, Waiting, Calling, Clump, Clumps, due_one, due_from, put_by_moment, by_moment, enqueue, enqueue_all, wake, with_activity, clump}
use Rattle.nxt_clumps.specs.Inside.Sleepers.{sleeper_one, sleepers_from, in_order, due_part, first_number}
use Rattle.nxt_clumps.proofs.Sleepers.Changed.{begins-with, first-sleeper}

-- ---- those who are due are the first ones

put_if : (x y : ℕ × ℕ) (ys : List (ℕ × ℕ)) (b : Bool) → nat_le x.0 y.0 ≡ b → put_by_moment x (y ∷ ys) ≡ (if b then x ∷ y ∷ ys else y ∷ put_by_moment x ys)
put_if x y ys b e = ap (λ (b : Bool). if b then x ∷ y ∷ ys else y ∷ put_by_moment x ys) e

due_if : (clock : ℕ) (x : ℕ × ℕ) (xs : List (ℕ × ℕ)) (b : Bool) → nat_le x.0 clock ≡ b → due_part clock (x ∷ xs) ≡ (if b then x ∷ due_part clock xs else [])
due_if clock x xs b e = ap (λ (b : Bool). if b then x ∷ due_part clock xs else []) e

-- one that is not due stands behind those who are
put_not_due : (clock : ℕ) (x : ℕ × ℕ) (ys : List (ℕ × ℕ)) → nat_le x.0 clock ≡ false → due_part clock (put_by_moment x ys) ≡ due_part clock ys
put_not_due clock x [] e = due_if clock x [] false e
put_not_due clock x (y ∷ ys) e =
    elim (cases_Bool (nat_le x.0 y.0)) [
      | inl less ↦
          let later : nat_le y.0 clock ≡ false = lt-leb y.0 clock (omega (arith, leb-true x.0 y.0 less, leb-false x.0 clock e)) in
          ap (due_part clock) (put_if x y ys true less) ∙ due_if clock x (y ∷ ys) false e ∙ sym (due_if clock y ys false later)
      | inr more ↦
          ap (due_part clock) (put_if x y ys false more) ∙ ap (λ l. if nat_le y.0 clock then y ∷ l else []) (put_not_due clock x ys e)
    ]

-- one that is due stands among them
put_due : (clock : ℕ) (x : ℕ × ℕ) (ys : List (ℕ × ℕ)) → nat_le x.0 clock ≡ true → due_part clock (put_by_moment x ys) ≡ put_by_moment x (due_part clock ys)
put_due clock x [] e = due_if clock x [] true e
put_due clock x (y ∷ ys) e =
    elim (cases_Bool (nat_le x.0 y.0)) [
      | inl less ↦
          ap (due_part clock) (put_if x y ys true less) ∙ due_if clock x (y ∷ ys) true e
          ∙ elim (cases_Bool (nat_le y.0 clock)) [
            | inl due ↦
                ap (λ l. x ∷ l) (due_if clock y ys true due) ∙ sym (ap (put_by_moment x) (due_if clock y ys true due) ∙ put_if x y (due_part clock ys) true less)
            | inr late ↦ ap (λ l. x ∷ l) (due_if clock y ys false late) ∙ sym (ap (put_by_moment x) (due_if clock y ys false late))
          ]
      | inr more ↦
          let due : nat_le y.0 clock ≡ true = le-leb y.0 clock (omega (arith, leb-false x.0 y.0 more, leb-true x.0 clock e)) in
          ap (due_part clock) (put_if x y ys false more) ∙ due_if clock y (put_by_moment x ys) true due ∙ ap (λ l. y ∷ l) (put_due clock x ys e)
          ∙ sym (ap (put_by_moment x) (due_if clock y ys true due) ∙ put_if x y (due_part clock ys) false more)
    ]

-- a clump that is not due, and one that is
due_more : (moment clock n : ℕ) (due all : List (ℕ × ℕ)) → by_moment due ≡ due_part clock (by_moment all)
    → by_moment (due_one (Asleep moment) clock n ++ due) ≡ due_part clock (put_by_moment (moment, n) (by_moment all))
due_more moment clock n due all e =
    let x : ℕ × ℕ = (moment, n) in
    elim (cases_Bool (nat_le moment clock)) [
      | inl is ↦
          ap (λ (b : Bool). by_moment ((if b then x ∷ [] else []) ++ due)) is ∙ ap (put_by_moment x) e ∙ sym (put_due clock x (by_moment all) is)
      | inr is ↦ ap (λ (b : Bool). by_moment ((if b then x ∷ [] else []) ++ due)) is ∙ e ∙ sym (put_not_due clock x (by_moment all) is)
    ]

due_first : (a : Activity) (clock n : ℕ) (due all : List (ℕ × ℕ)) → by_moment due ≡ due_part clock (by_moment all)
    → by_moment (due_one a clock n ++ due) ≡ due_part clock (by_moment (sleeper_one a n ++ all))
due_first Idle clock n due all e = e
due_first Queued clock n due all e = e
due_first (Asleep moment) clock n due all e = due_more moment clock n due all e
due_first (Waiting m) clock n due all e = e
due_first Calling clock n due all e = e

due-are_first : (clock n : ℕ) (clumps : List Clump) → by_moment (due_from clock n clumps) ≡ due_part clock (by_moment (sleepers_from n clumps))
due-are_first clock n [] = refl
due-are_first clock n (k ∷ ks) =
    due_first k.activity clock n (due_from clock (n + 1) ks) (sleepers_from (n + 1) ks) (due-are_first clock (n + 1) ks)

wake-by_order : (clock : ℕ) (s : Clumps) → wake clock s ≡ enqueue_all (due_part clock (in_order s.clumps)) s
wake-by_order clock s = ap (λ ds. enqueue_all ds s) (due-are_first clock 0 s.clumps)

-- ---- the first of them

due_begins : (clock : ℕ) (x : ℕ × ℕ) (xs : List (ℕ × ℕ)) (n : ℕ) → first_number (due_part clock (x ∷ xs)) ≡ Some n → (nat_le x.0 clock ≡ true) × (x.1 ≡ n)
due_begins clock x xs n e =
    elim (cases_Bool (nat_le x.0 clock)) [
      | inl due ↦ let f = sym (ap first_number (due_if clock x xs true due)) ∙ e in (due, cc)
      | inr late ↦ let f = sym (ap first_number (due_if clock x xs false late)) ∙ e in let g : ⊥ = cc in absurd g
    ]

-- the first one that is due is the first one
pub due-first : (clock : ℕ) (xs : List (ℕ × ℕ)) (n : ℕ) → first_number (due_part clock xs) ≡ Some n → first_number xs ≡ Some n
due-first clock [] n e = e
due-first clock (x ∷ xs) n e = ap (λ (n : ℕ). Some n) (due_begins clock x xs n e).1

due_rest : (clock moment n : ℕ) (rest : List (ℕ × ℕ)) → first_number (due_part clock ((moment, n) ∷ rest)) ≡ Some n
    → due_part clock ((moment, n) ∷ rest) ≡ (moment, n) ∷ due_part clock rest
due_rest clock moment n rest e = due_if clock (moment, n) rest true (due_begins clock (moment, n) rest n e).0

pub wake-next : (clock : ℕ) (s : Clumps) (n : ℕ) → first_number (due_part clock (in_order s.clumps)) ≡ Some n → wake clock s ≡ wake clock (enqueue n s)
wake-next clock s n e =
    let b = begins-with (in_order s.clumps) n (due-first clock (in_order s.clumps) n e) in
    let first = first-sleeper s.clumps (b.moment, n) b.rest b.split in
    let due = due_rest clock b.moment n b.rest (sym (ap (λ l. first_number (due_part clock l)) b.split) ∙ e) in
    wake-by_order clock s
    ∙ ap (λ l. enqueue_all (due_part clock l) s) b.split
    ∙ ap (λ l. enqueue_all l s) due
    ∙ ap (λ l. enqueue_all (due_part clock l) (enqueue n s)) (sym (first.others (with_activity Queued (clump s n)) refl))
    ∙ sym (wake-by_order clock (enqueue n s))

-- each that wakes is one sleeper less
pub order-less : (clock : ℕ) (s : Clumps) (n : ℕ) → first_number (due_part clock (in_order s.clumps)) ≡ Some n
    → length (in_order (enqueue n s).clumps) < length (in_order s.clumps)
order-less clock s n e =
    let b = begins-with (in_order s.clumps) n (due-first clock (in_order s.clumps) n e) in
    let first = first-sleeper s.clumps (b.moment, n) b.rest b.split in
    omega (arith, ap length b.split, ap length (first.others (with_activity Queued (clump s n)) refl))

none_due : (xs : List (ℕ × ℕ)) → first_number xs ≡ None → xs ≡ []
none_due [] e = refl
none_due (x ∷ xs) e = cc

pub wake-done : (clock : ℕ) (s : Clumps) → first_number (due_part clock (in_order s.clumps)) ≡ None → wake clock s ≡ s
wake-done clock s e = wake-by_order clock s ∙ ap (λ l. enqueue_all l s) (none_due (due_part clock (in_order s.clumps)) e)
