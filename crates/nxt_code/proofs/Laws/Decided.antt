-- Each code is refused by a first rule, or breaks none.
use Rattle.std.proofs.Common.{◌≡◌, ℕ, ◌+◌, ◌<◌, ◌≤◌, Bool, true, false, List, [], ◌∷◌, ◌++◌, length, refl, ap, arith, ◌⊎◌, inl, inr, Option, Some, None, ltb-true, leb-true, eqb-true}
use Rattle.std.proofs.lemmas.Bool.{and_parts}
use Rattle.std.proofs.lemmas.List.Sums.{sum_by-cons}
use Rattle.std.specs.Prelude.{IsTrue, nat_lt, nat_le, not, ◌==◌, ◌&&◌, ◌||◌, sum_by, slice_get}
use Rattle.nxt_types.specs.Refusals.{IsRefusal, IsAccepted, comes_first, passes}
use Rattle.nxt_types.specs.Statements.{Statement, statements}
use Rattle.nxt_types.proofs.Laws.Refusals.{Among, Sorted, Behind, decided, tested, each, grid, among_each, among_grid, among_left, among_right, all_weaker, behind_each, behind_grid, then_each, then_grid, any_bounded, at_bounded}
use Rattle.nxt_code.specs.declared.fault.CodeFault.{CodeFault}
use Rattle.nxt_code.specs.declared.fault.CodeFault.TheVariants.{ClumpCount, ClumpStart, Dependent, Instr, Operand, Jump, FallsOut, NoMemory}
use Rattle.nxt_code.specs.CodeRules.{Program, dependent_lists, dependent_in, starts_badly, of_statement, is_due, is_spelled, leads_nowhere, is_last_at, may_go_on, is_refused_operand, breaks, Broken, rank}

-- a test passes only where something stands
passes_within : {X : Type 0} (size : X → ℕ) (test : X → Bool) (xs : List X) (i : ℕ) → IsTrue (passes test (slice_get xs i)) → i < length xs
passes_within {X} size test xs i h = by (slice_get xs i) refl h
  where
    by : (o : Option X) → slice_get xs i ≡ o → IsTrue (passes test o) → i < length xs
    by None e h = absurd (let f : false ≡ true = h in cc)
    by (Some x) e h = (at_bounded size xs i x e).0

abbrev extent : ℕ × Statement → ℕ
extent s = s.0 + length s.1.args + 1

last_bounded : (w : ℕ) (test : Statement → Bool) (xs : List (ℕ × Statement)) → IsTrue (is_last_at w test xs) → w < sum_by extent xs
last_bounded w test [] h = absurd (let e : false ≡ true = h in cc)
last_bounded w test (s ∷ []) h =
    let same = eqb-true s.0 w (and_parts (s.0 == w) (test s.1) h).0 in omega (arith, same, sum_by-cons extent s [])
last_bounded w test (s ∷ t ∷ more) h =
    let rest = last_bounded w test (t ∷ more) h in omega (arith, rest, sum_by-cons extent s (t ∷ more))

module _ (p : Program) where
  abbrev bound : ℕ
  bound = sum_by extent (statements p.words)

  abbrev lists : List (List ℕ)
  lists = dependent_lists p.clumps p.dependents

  abbrev longest : ℕ
  longest = sum_by length lists

  -- the faults at all places, rule by rule from the last on
  abbrev from_25 : List CodeFault
  from_25 = each FallsOut 0 bound ++ []

  abbrev from_24 : List CodeFault
  from_24 = each Jump 0 bound ++ from_25

  abbrev from_23 : List CodeFault
  from_23 = grid Operand 0 bound bound ++ from_24

  abbrev from_22 : List CodeFault
  from_22 = each Instr 0 (length p.words) ++ from_23

  abbrev from_21 : List CodeFault
  from_21 = grid Dependent 0 (length lists) longest ++ from_22

  abbrev from_20 : List CodeFault
  from_20 = each ClumpStart 0 (length p.clumps) ++ from_21

  abbrev candidates : List CodeFault
  candidates = ClumpCount (length p.clumps) ∷ from_20

  -- a fault among those of a rule is a candidate
  in_21 : (f : CodeFault) → Among f from_21 → Among f candidates
  in_21 f m = inr (among_right f (each ClumpStart 0 (length p.clumps)) from_21 m)

  in_22 : (f : CodeFault) → Among f from_22 → Among f candidates
  in_22 f m = in_21 f (among_right f (grid Dependent 0 (length lists) longest) from_22 m)

  in_23 : (f : CodeFault) → Among f from_23 → Among f candidates
  in_23 f m = in_22 f (among_right f (each Instr 0 (length p.words)) from_23 m)

  in_24 : (f : CodeFault) → Among f from_24 → Among f candidates
  in_24 f m = in_23 f (among_right f (grid Operand 0 bound bound) from_24 m)

  in_25 : (f : CodeFault) → Among f from_25 → Among f candidates
  in_25 f m = in_24 f (among_right f (each Jump 0 bound) from_25 m)

  at_dependent : (c k : ℕ) → (o : Option (List ℕ)) → slice_get lists c ≡ o → (e : Option ℕ) → dependent_in o k ≡ e → IsTrue (passes (λ d. nat_le (length p.clumps) d) e) →
      (c < length lists) × (k < longest)
  at_dependent c k o f None e h = absurd (let g : false ≡ true = h in cc)
  at_dependent c k None f (Some d) e h = absurd (let g : None ≡ Some d = e in cc)
  at_dependent c k (Some ds) f (Some d) e h =
      let there = at_bounded length lists c ds f in
      let here = at_bounded (λ x. x) ds k d e in
      (there.0, omega (arith, there.1, here.0))

  at_statement : (w : ℕ) (test : Statement → Bool) → IsTrue (of_statement p.words w test) →
      (s : ℕ × Statement) × (s.0 ≡ w) × IsTrue (test s.1) × (extent s ≤ bound)
  at_statement w test h =
      let found = any_bounded (λ s. (s.0 == w) && test s.1) extent (statements p.words) h in
      let parts = and_parts (found.0.0 == w) (test found.0.1) found.1 in
      (found.0, eqb-true found.0.0 w parts.0, parts.1, found.2)

  complete : (f : CodeFault) → Broken p f → Among f candidates
  complete (ClumpCount n) h = inl (ap ClumpCount (eqb-true n (length p.clumps) (and_parts (n == length p.clumps) ((n == 0) || nat_lt 255 n) h).0))
  complete (ClumpStart c) h = inr (among_left (ClumpStart c) (each ClumpStart 0 (length p.clumps)) from_21 (among_each ClumpStart 0 (length p.clumps) c (omega arith) (let lt = passes_within (λ r. r.start) (starts_badly p.words) p.clumps c h in omega (arith, lt))))
  complete (Dependent c k) h =
      let lt = at_dependent c k (slice_get lists c) refl (dependent_in (slice_get lists c) k) refl h in
      in_21 (Dependent c k) (among_left (Dependent c k) (grid Dependent 0 (length lists) longest) from_22 (among_grid Dependent 0 (length lists) longest c k (omega arith) (omega (arith, lt.0)) lt.1))
  complete (Instr w) h =
      let lt = ltb-true w (length p.words) (and_parts (is_due p.words w) (nat_lt w (length p.words)) (and_parts (is_due p.words w && nat_lt w (length p.words)) (not (is_spelled p.words w)) h).0).1 in
      in_22 (Instr w) (among_left (Instr w) (each Instr 0 (length p.words)) from_23 (among_each Instr 0 (length p.words) w (omega arith) (omega (arith, lt))))
  complete (Operand w k) h =
      let s = at_statement w (is_refused_operand p.shapes (length p.clumps) k) h in
      let n = length s.0.1.args in
      let le = leb-true k n (and_parts (nat_lt 0 k) (nat_le k n) (and_parts (nat_lt 0 k && nat_le k n) _ s.2).0).1 in
      let at = s.1 in
      let most = s.3 in
      in_23 (Operand w k) (among_left (Operand w k) (grid Operand 0 bound bound) from_24 (among_grid Operand 0 bound bound w k (omega arith) (omega (arith, at, most)) (omega (arith, le, most))))
  complete (Jump w) h =
      let s = at_statement w (leads_nowhere p.words w) h in
      let at = s.1 in
      let most = s.3 in
      in_24 (Jump w) (among_left (Jump w) (each Jump 0 bound) from_25 (among_each Jump 0 bound w (omega arith) (omega (arith, at, most))))
  complete (FallsOut w) h =
      let lt = last_bounded w may_go_on (statements p.words) h in
      in_25 (FallsOut w) (among_left (FallsOut w) (each FallsOut 0 bound) [] (among_each FallsOut 0 bound w (omega arith) (omega (arith, lt))))
  complete NoMemory h = absurd (let e : false ≡ true = h in cc)

  behind_25 : (r : ℕ) → r < 25 → Behind rank r from_25
  behind_25 r lt = behind_each rank FallsOut r 25 bound [] lt (λ j. refl) tt

  behind_24 : (r : ℕ) → r < 24 → Behind rank r from_24
  behind_24 r lt = behind_each rank Jump r 24 bound from_25 lt (λ j. refl) (behind_25 r (omega (arith, lt)))

  behind_23 : (r : ℕ) → r < 23 → Behind rank r from_23
  behind_23 r lt = behind_grid rank Operand r 23 bound bound from_24 lt (λ j k. refl) (behind_24 r (omega (arith, lt)))

  behind_22 : (r : ℕ) → r < 22 → Behind rank r from_22
  behind_22 r lt = behind_each rank Instr r 22 (length p.words) from_23 lt (λ j. refl) (behind_23 r (omega (arith, lt)))

  behind_21 : (r : ℕ) → r < 21 → Behind rank r from_21
  behind_21 r lt = behind_grid rank Dependent r 21 (length lists) longest from_22 lt (λ j k. refl) (behind_22 r (omega (arith, lt)))

  behind_20 : (r : ℕ) → r < 20 → Behind rank r from_20
  behind_20 r lt = behind_each rank ClumpStart r 20 (length p.clumps) from_21 lt (λ j. refl) (behind_21 r (omega (arith, lt)))

  sorted : Sorted rank candidates
  sorted = (
    all_weaker _ (λ f. IsTrue (comes_first (19 ∷ length p.clumps ∷ []) (rank f))) (λ f h. h (length p.clumps ∷ [])) from_20 (behind_20 19 (omega arith)),
    then_each rank ClumpStart 20 (length p.clumps) from_21 (λ j. refl)
        (then_grid rank Dependent 21 (length lists) longest from_22 (λ j k. refl)
        (then_each rank Instr 22 (length p.words) from_23 (λ j. refl)
        (then_grid rank Operand 23 bound bound from_24 (λ j k. refl)
        (then_each rank Jump 24 bound from_25 (λ j. refl)
        (then_each rank FallsOut 25 bound [] (λ j. refl) tt tt)
        (behind_25 24 (omega arith)))
        (behind_24 23 (omega arith)))
        (behind_23 22 (omega arith)))
        (behind_22 21 (omega arith)))
        (behind_21 20 (omega arith)),
  )

  -- a rule is broken first, or none is
  pub code_or_refusal : ((f : CodeFault) × IsRefusal (Broken p) rank f) ⊎ IsAccepted (Broken p)
  code_or_refusal = decided (Broken p) rank (λ f. tested (breaks p f)) candidates sorted complete
