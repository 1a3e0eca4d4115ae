-- The first statement that passes a test, and the last one.
use Rattle.std.proofs.Common.{◌≡◌, ℕ, suc, ◌+◌, ◌-◌, ◌<◌, ◌≤◌, Bool, true, false, ◌&&◌, ◌||◌, ◌==◌, List, [], ◌∷◌, length, refl, sym, ap, ◌∙◌, subst, arith, Option, Some, None, map, option_map, drop, take, ◌++◌, get_or}
use Rattle.std.specs.Prelude.{if◌then◌else◌, slice_get}
use Rattle.std.proofs.lemmas.Bool.{eqb-true, eq-eqb, ne_eqb, and_from, and_right, or_left, or_right, or_parts, false_from_ne_true, and_parts, both_ways, or_from, and_left}
use Rattle.std.proofs.lemmas.List.{drop_more, drop_all, length-map, take-append-drop, map-append, map_more, take_all}
use Rattle.std.proofs.lemmas.List.Folds.{list_any-append}
use Rattle.std.proofs.lemmas.Option.{slice_get-map}
use Rattle.nxt_types.specs.Statements.{Statement, statements, statement_of}
use Rattle.nxt_code.specs.declared.statements.StatementAt.{StatementAt}
use Rattle.nxt_code.specs.declared.statements.Decoded.{Decoded}
use Rattle.nxt_types.specs.Refusals.{passes}
use Rattle.nxt_code.specs.CodeRules.{end_of, is_last_at, begins}
use Rattle.nxt_code.specs.Decoding.{placed_of, Tiles, IsDecoded}
use Rattle.nxt_code.specs.Inside.Places.{Finds, FindsPair}
use Rattle.std.specs.List.{list_any}
use Rattle.std.proofs.Math.Bool.{or-false}
use Rattle.nxt_code.proofs.Sequence.Tiled.{begins_below}

-- the word of the first statement that passes the test
abbrev pub first_of : (ℕ → Statement → Bool) → List (ℕ × Statement) → Option ℕ
first_of test [] = None
first_of test (s ∷ ss) = if test s.0 s.1 then Some s.0 else first_of test ss

-- the test is passed by the statement at the word
abbrev pub passed_at : (ℕ → Statement → Bool) → List (ℕ × Statement) → ℕ → Bool
passed_at test sts w = list_any (λ s. (s.0 == w) && test w s.1) sts

fails_here : (test : ℕ → Statement → Bool) (s : ℕ × Statement) (w : ℕ) → test s.0 s.1 ≡ false → ((s.0 == w) && test w s.1) ≡ false
fails_here test s w e = false_from_ne_true ((s.0 == w) && test w s.1) (λ f.
    let p = and_parts (s.0 == w) (test w s.1) f in
    both_ways (test w s.1) (subst (λ v. test v s.1 ≡ false) (eqb-true s.0 w p.0) e) p.1)

-- where no statement begins, none passes
none_there : (test : ℕ → Statement → Bool) (sts : List (ℕ × Statement)) (w : ℕ) → begins sts w ≡ false → passed_at test sts w ≡ false
none_there test [] w e = refl
none_there test (s ∷ ss) w e =
    let p = or_parts (s.0 == w) (begins ss w) e in
    or_from ((s.0 == w) && test w s.1) (passed_at test ss w) (and_left (s.0 == w) (test w s.1) p.0) (none_there test ss w p.1)

pub first_none : (test : ℕ → Statement → Bool) (sts : List (ℕ × Statement)) → first_of test sts ≡ None → (w : ℕ) → passed_at test sts w ≡ false
first_none test [] e w = refl
first_none test (s ∷ ss) e w = by (λ g. first_none test ss g w) (test s.0 s.1) refl e
  where
    by : (first_of test ss ≡ None → passed_at test ss w ≡ false) → (b : Bool) → test s.0 s.1 ≡ b → (if b then Some s.0 else first_of test ss) ≡ None → passed_at test (s ∷ ss) w ≡ false
    by ih true f g = absurd (let h : ⊥ = cc in h)
    by ih false f g = or_from ((s.0 == w) && test w s.1) (passed_at test ss w) (fails_here test s w f) (ih g)

pub first_some : (test : ℕ → Statement → Bool) (words : List ℕ) (from : ℕ) (sts : List (ℕ × Statement)) (to w : ℕ) → Tiles words from sts to → first_of test sts ≡ Some w → Finds (passed_at test sts) (Some w)
first_some test words from [] to w t e = absurd (let h : ⊥ = cc in h)
first_some test words from (s ∷ ss) to w t e = by (λ g. first_some test words (end_of words s) ss to w t.3 g) (test s.0 s.1) refl e
  where
    by : (first_of test ss ≡ Some w → Finds (passed_at test ss) (Some w)) → (b : Bool) → test s.0 s.1 ≡ b → (if b then Some s.0 else first_of test ss) ≡ Some w → Finds (passed_at test (s ∷ ss)) (Some w)
    by ih true f g =
        let here : s.0 ≡ w = cc in
        let k : from < end_of words s = t.1 in
        let l : s.0 ≡ from = t.0 in (
          or_left ((s.0 == w) && test w s.1) (passed_at test ss w) (and_from (s.0 == w) (test w s.1) (eq-eqb s.0 w here) (subst (λ v. test v s.1 ≡ true) here f)),
          λ v m. or_from ((s.0 == v) && test v s.1) (passed_at test ss v) (and_left (s.0 == v) (test v s.1) (ne_eqb s.0 v (λ h. omega (arith, h, here, m))))
              (none_there test ss v (begins_below words (end_of words s) ss to v t.3 (omega (arith, here, m, k, l)))),
        )
    by ih false f g =
        let later = ih g in (
          or_right ((s.0 == w) && test w s.1) (passed_at test ss w) later.0,
          λ v m. or_from ((s.0 == v) && test v s.1) (passed_at test ss v) (fails_here test s v f) (later.1 v m),
        )

-- ---- among the statements that are decoded

module _ (words : List ℕ) (code : Decoded) (d : IsDecoded words code) (test : ℕ → Statement → Bool) (xs : List StatementAt) (i : ℕ) (same : xs ≡ code.placed.items)
    (before : first_of test (map (placed_of words) code.placed.items) ≡ first_of test (map (placed_of words) (drop i code.placed.items))) where
  all : first_of test (statements words) ≡ first_of test (map (placed_of words) (drop i xs))
  all = ap (first_of test) (sym d.listed) ∙ before ∙ ap (λ l. first_of test (map (placed_of words) (drop i l))) (sym same)

  pub found_at : (z : StatementAt) → i < length xs → test (get_or xs i z).word (statement_of (get_or xs i z).instr words) ≡ true → Finds (passed_at test (statements words)) (Some (get_or xs i z).word)
  found_at z l e =
      let x = get_or xs i z in
      first_some test words 0 (statements words) (length code.numbers.items) x.word d.tiled
      (all ∙ ap (λ l. first_of test (map (placed_of words) l)) (drop_more xs i z l)
      ∙ ap (λ b. if b then Some x.word else first_of test (map (placed_of words) (drop (i + 1) xs))) e)

  pub found_nowhere : length xs ≤ i → (w : ℕ) → passed_at test (statements words) w ≡ false
  found_nowhere l = first_none test (statements words) (all ∙ ap (λ l. first_of test (map (placed_of words) l)) (drop_all i xs l))

-- ---- a test with a place of its own in each statement

tiles_split : (words : List ℕ) (from : ℕ) (sts : List (ℕ × Statement)) (s : ℕ × Statement) (more : List (ℕ × Statement)) (to : ℕ) → Tiles words from (sts ++ s ∷ more) to → Tiles words (end_of words s) more to × (s.0 < end_of words s)
tiles_split words from [] s more to t = (t.3, subst (λ v. v < end_of words s) (sym t.0) t.1)
tiles_split words from (x ∷ xs) s more to t = tiles_split words (end_of words x) xs s more to t.3

module _ (words : List ℕ) (code : Decoded) (d : IsDecoded words code) (test : ℕ → Statement → Bool) (xs : List StatementAt) (i : ℕ) (same : xs ≡ code.placed.items)
    (before : (v j : ℕ) → passed_at (λ _. test j) (map (placed_of words) (take i code.placed.items)) v ≡ false) where
  abbrev front : List (ℕ × Statement)
  front = map (placed_of words) (take i xs)

  none_before : (v j : ℕ) → passed_at (λ _. test j) front v ≡ false
  none_before v j = ap (λ l. passed_at (λ _. test j) (map (placed_of words) (take i l)) v) same ∙ before v j

  module _ (z : StatementAt) (within : i < length xs) where
    abbrev here : ℕ × Statement
    here = placed_of words (get_or xs i z)

    abbrev behind : List (ℕ × Statement)
    behind = map (placed_of words) (drop (i + 1) xs)

    split : statements words ≡ front ++ here ∷ behind
    split =
        sym d.listed ∙ ap (map (placed_of words)) (sym same) ∙ ap (map (placed_of words)) (sym (take-append-drop i xs))
        ∙ ap (λ l. map (placed_of words) (take i xs ++ l)) (drop_more xs i z within)
        ∙ map-append (placed_of words) (take i xs) (get_or xs i z ∷ drop (i + 1) xs)

    passed_is : (v j : ℕ) → passed_at (λ _. test j) (statements words) v ≡ (((here.0 == v) && test j here.1) || passed_at (λ _. test j) behind v)
    passed_is v j =
        ap (λ l. passed_at (λ _. test j) l v) split
        ∙ list_any-append (λ s. (s.0 == v) && test j s.1) front (here ∷ behind)
        ∙ ap (λ b. b || (((here.0 == v) && test j here.1) || passed_at (λ _. test j) behind v)) (none_before v j)

    after : Tiles words (end_of words here) behind (length code.numbers.items) × (here.0 < end_of words here)
    after = tiles_split words 0 front here behind (length code.numbers.items) (subst (λ l. Tiles words 0 l (length code.numbers.items)) split d.tiled)

    none_behind : (v j : ℕ) → v ≤ here.0 → passed_at (λ _. test j) behind v ≡ false
    none_behind v j l =
        let k = after.1 in
        none_there (λ _. test j) behind v (begins_below words (end_of words here) behind (length code.numbers.items) v after.0 (omega (arith, k, l)))

    pub pair_found : (k : ℕ) → test k here.1 ≡ true → ((j : ℕ) → j < k → test j here.1 ≡ false) → FindsPair (λ w j. passed_at (λ _. test j) (statements words) w) (Some (here.0, k))
    pair_found k e less = (
      passed_is here.0 k ∙ or_left ((here.0 == here.0) && test k here.1) (passed_at (λ _. test k) behind here.0) (and_from (here.0 == here.0) (test k here.1) (eq-eqb here.0 here.0 refl) e),
      (λ v j l. passed_is v j ∙ or_from ((here.0 == v) && test j here.1) (passed_at (λ _. test j) behind v) (and_left (here.0 == v) (test j here.1) (ne_eqb here.0 v (λ h. omega (arith, h, l)))) (none_behind v j (omega (arith, l)))),
      (λ j l. passed_is here.0 j ∙ or_from ((here.0 == here.0) && test j here.1) (passed_at (λ _. test j) behind here.0) (and_right (here.0 == here.0) (test j here.1) (less j l)) (none_behind here.0 j (omega arith))),
    )

    pub none_more : ((j : ℕ) → test j here.1 ≡ false) → (v j : ℕ) → passed_at (λ _. test j) (map (placed_of words) (take (i + 1) code.placed.items)) v ≡ false
    none_more h v j =
        ap (λ l. passed_at (λ _. test j) (map (placed_of words) (take (i + 1) l)) v) (sym same)
        ∙ ap (λ l. passed_at (λ _. test j) l v) (map_more (placed_of words) xs i z within)
        ∙ list_any-append (λ s. (s.0 == v) && test j s.1) front (here ∷ [])
        ∙ or_from (passed_at (λ _. test j) front v) (((here.0 == v) && test j here.1) || false) (none_before v j)
        (or-false ((here.0 == v) && test j here.1) ∙ and_right (here.0 == v) (test j here.1) (h j))

  pub none_at_all : length xs ≤ i → (v j : ℕ) → passed_at (λ _. test j) (statements words) v ≡ false
  none_at_all l v j =
      ap (λ l. passed_at (λ _. test j) l v) (sym d.listed ∙ ap (map (placed_of words)) (sym same ∙ sym (take_all i xs l)))
      ∙ none_before v j

-- ---- the last one

pub last_mapped : {X : Type 0} (f : X → ℕ × Statement) (xs ys : List X) (x : X) (sts : List (ℕ × Statement)) → Some x ≡ slice_get ys (length ys - 1) → ys ≡ xs → map f xs ≡ sts → slice_get sts (length sts - 1) ≡ Some (f x)
last_mapped f xs ys x sts e same listed =
    ap (λ l. slice_get l (length l - 1)) (sym listed)
    ∙ ap (λ n. slice_get (map f xs) (n - 1)) (length-map xs f)
    ∙ slice_get-map f xs (length xs - 1)
    ∙ ap (λ l. option_map f (slice_get l (length l - 1))) (sym same)
    ∙ ap (option_map f) (sym e)

pub last_is : (w : ℕ) (test : Statement → Bool) (sts : List (ℕ × Statement)) → is_last_at w test sts ≡ passes (λ s. (s.0 == w) && test s.1) (slice_get sts (length sts - 1))
last_is w test [] = refl
last_is w test (s ∷ []) = refl
last_is w test (s ∷ x ∷ ss) =
    let n : suc (length (x ∷ ss) - 1) ≡ length (s ∷ x ∷ ss) - 1 = omega arith in
    last_is w test (x ∷ ss) ∙ ap (λ k. passes (λ y. (y.0 == w) && test y.1) (slice_get (s ∷ x ∷ ss) k)) n

pub last_found : (test : Statement → Bool) (sts : List (ℕ × Statement)) (s : ℕ × Statement) → slice_get sts (length sts - 1) ≡ Some s → test s.1 ≡ true → Finds (λ w. is_last_at w test sts) (Some s.0)
last_found test sts s e f = (
  last_is s.0 test sts ∙ ap (passes (λ x. (x.0 == s.0) && test x.1)) e ∙ and_from (s.0 == s.0) (test s.1) (eq-eqb s.0 s.0 refl) f,
  λ v l. last_is v test sts ∙ ap (passes (λ x. (x.0 == v) && test x.1)) e ∙ and_left (s.0 == v) (test s.1) (ne_eqb s.0 v (λ h. omega (arith, h, l))),
)

pub last_fails : (test : Statement → Bool) (sts : List (ℕ × Statement)) (s : ℕ × Statement) → slice_get sts (length sts - 1) ≡ Some s → test s.1 ≡ false → (w : ℕ) → is_last_at w test sts ≡ false
last_fails test sts s e f w =
    last_is w test sts ∙ ap (passes (λ x. (x.0 == w) && test x.1)) e ∙ fails_here (λ _. test) s w f
