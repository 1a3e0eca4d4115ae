-- The values, the lists, the rows and the footprint of a text and of its image.
use Rattle.std.proofs.Common.{◌≡◌, ℕ, suc, ◌+◌, ◌*◌, max, ℤ, List, [], ◌∷◌, ◌++◌, map, length, pos, take, refl, sym, ap, ap₂, subst, ◌∙◌, append_assoc, arith, length-append}
use Rattle.std.specs.Prelude.{All, sum_by}
use Rattle.std.proofs.lemmas.List.{length-map}
use Rattle.std.proofs.lemmas.List.Sums.{sum_by-cons}
use Rattle.nxt_types.specs.Names.{size}
use Rattle.nxt_types.specs.Pool.{round4, row_size}
use Rattle.nxt_types.specs.Shapes.{Cluster, Number, Shape, members}
use Rattle.nxt_types.specs.declared.kind.Kind.TheVariants.{Slong, Ubyte}
use Rattle.nxt_model.specs.Assembled.{all_shapes, arrays_among, assembled, leaves_sizes, places}
use Rattle.nxt_model.specs.Footprint.{list_bytes, member_bytes}
use Rattle.nxt_model.specs.Image as image
use Rattle.nxt_model.specs.Means.Text.{ended}
use Rattle.nxt_model.specs.TextProgram as text
use Rattle.nxt_model.specs.TextProgram.{Text, constants, declared, first_values, returns, shapes, starts_as, static_size, text_bytes, text_of, text_shape, text_value, texts}
use Rattle.nxt_model.specs.Values.{Value, Num, group_of, lists_among, lists_in, values, zero_of}
use Rattle.nxt_model.specs.declared.nbc.NbcProgram.{NbcProgram}
use Rattle.nxt_model.proofs.Laws.Values.{items-values}
use Rattle.nxt_asm_parts.specs.Defaults.{StartFits}
use Rattle.nxt_asm_rules.proofs.Laws.Counts.{table_length}
use Rattle.nxt_asm_rules.proofs.Laws.StartFootprint.{rows_counted, sum_all}
use Rattle.nxt_asm_rules.proofs.Laws.Sums.{arrays_among-members, sizes-members}
use Rattle.nxt_asm_laws_runs.proofs.Agreement.{constant_values, variable_count}
use Rattle.nxt_asm_laws_runs.proofs.Constants.{IsWhole, more, more_group}

-- ---- lists

lists-append : (xs ys : List Value) → lists_among (values (xs ++ ys)) ≡ lists_among (values xs) + lists_among (values ys)
lists-append [] ys = omega arith
lists-append (x ∷ xs) ys = by (lists_in x) (lists_among (values xs)) (lists_among (values ys)) (lists_among (values (xs ++ ys))) (lists-append xs ys)
  where
    by : (a b c d : ℕ) → d ≡ b + c → a + d ≡ (a + b) + c
    by a b c d e = omega (arith, e)

no_lists : {X : Type 0} (f : X → ℤ) (xs : List X) → lists_among (values (map (λ x. Num (f x)) xs)) ≡ 0
no_lists f [] = refl
no_lists f (x ∷ xs) = let rest = no_lists f xs in omega (arith, rest)

-- one for each text
text_lists : (ts : List (List ℕ)) → lists_among (values (map text_value ts)) ≡ length ts
text_lists [] = refl
text_lists (t ∷ ts) =
    let none : lists_in (text_value t) ≡ 1 = ap (λ n. n + 1) (no_lists pos (ended t)) in
    let rest = text_lists ts in
    by (lists_in (text_value t)) (lists_among (values (map text_value ts))) (length ts) none rest
  where
    by : (a b c : ℕ) → a ≡ 1 → b ≡ c → a + b ≡ suc c
    by a b c e f = omega (arith, e, f)

constant_lists : (p : Text) → lists_among (values (constant_values p)) ≡ length (texts p)
constant_lists p =
    let none : 0 + length (texts p) ≡ length (texts p) = omega arith in
    lists-append (map Num (constants p)) (map text_value (texts p))
    ∙ ap₂ (λ (a b : ℕ). a + b) (no_lists (λ z. z) (constants p)) (text_lists (texts p))
    ∙ none

-- ---- bytes

bytes-append : (ss ts : List Shape) (vs ws : List Value) → length vs ≡ length ss → member_bytes (members (ss ++ ts)) (vs ++ ws) ≡ member_bytes (members ss) vs + member_bytes (members ts) ws
bytes-append [] ts [] ws e = omega arith
bytes-append [] ts (v ∷ vs) ws e = absurd (omega (arith, e))
bytes-append (s ∷ ss) ts [] ws e = absurd (omega (arith, e))
bytes-append (s ∷ ss) ts (v ∷ vs) ws e =
    by (list_bytes s v) (member_bytes (members ss) vs) (member_bytes (members ts) ws) (member_bytes (members (ss ++ ts)) (vs ++ ws)) (bytes-append ss ts vs ws (omega (arith, e)))
  where
    by : (a b c d : ℕ) → d ≡ b + c → a + d ≡ (a + b) + c
    by a b c d e = omega (arith, e)

number_bytes : (zs : List ℤ) → member_bytes (members (map (λ z. Number Slong) zs)) (map Num zs) ≡ 0
number_bytes [] = refl
number_bytes (z ∷ zs) = let rest = number_bytes zs in omega (arith, rest)

no_bytes : (vs : List Value) → sum_by (list_bytes (Number Ubyte)) vs ≡ 0
no_bytes [] = refl
no_bytes (v ∷ vs) = let all = sum_by-cons (list_bytes (Number Ubyte)) v vs in let rest = no_bytes vs in omega (arith, all, rest)

-- a text's bytes and its zero
one_text : (t : List ℕ) → list_bytes text_shape (text_value t) ≡ round4 (length t + 1)
one_text t =
    let xs : List Value = map (λ b. Num (pos b)) (ended t) in
    let long : length xs * 1 ≡ length t + 1 = let m = length-map (ended t) (λ b. Num (pos b)) in let n = length-append t (0 ∷ []) in omega (arith, m, n) in
    let none : round4 (length t + 1) + 0 ≡ round4 (length t + 1) = omega arith in
    ap (λ ws. round4 (length ws * 1) + sum_by (list_bytes (Number Ubyte)) ws) (items-values xs)
    ∙ ap₂ (λ (a b : ℕ). round4 a + b) long (no_bytes xs)
    ∙ none

texts_bytes : (ts : List (List ℕ)) → member_bytes (members (map (λ t. text_shape) ts)) (map text_value ts) ≡ sum_by (λ bytes. round4 (length bytes + 1)) ts
texts_bytes [] = refl
texts_bytes (t ∷ ts) = ap₂ (λ (a b : ℕ). a + b) (one_text t) (texts_bytes ts) ∙ sym (sum_by-cons (λ (bytes : List ℕ). round4 (length bytes + 1)) t ts)

-- those of all values
all_bytes : (p : Text) (vs : List Value) → length vs ≡ length (shapes p)
    → member_bytes (members (all_shapes p)) (vs ++ constant_values p) ≡ member_bytes (members (shapes p)) vs + text_bytes p
all_bytes p vs many =
    let numbers : List Shape = map (λ z. Number Slong) (constants p) in
    let others : List Shape = map (λ t. text_shape) (texts p) in
    let none : 0 + text_bytes p ≡ text_bytes p = omega arith in
    let same : length (map Num (constants p)) ≡ length numbers = length-map (constants p) Num ∙ sym (length-map (constants p) (λ z. Number Slong)) in
    ap (λ ss. member_bytes (members ss) (vs ++ constant_values p)) (append_assoc (shapes p) numbers others)
    ∙ bytes-append (shapes p) (numbers ++ others) vs (constant_values p) many
    ∙ ap (λ n. member_bytes (members (shapes p)) vs + n)
    (bytes-append numbers others (map Num (constants p)) (map text_value (texts p)) same ∙ ap₂ (λ (a b : ℕ). a + b) (number_bytes (constants p)) (texts_bytes (texts p)) ∙ none)

-- ---- programs

take_all : {X : Type 0} (xs : List X) → take (length xs) xs ≡ xs
take_all [] = refl
take_all (x ∷ xs) = ap (λ l. x ∷ l) (take_all xs)

module _ (t : Text) where
  abbrev n : ℕ
  n = variable_count t

  abbrev cs : List Value
  cs = constant_values t

  -- there are as many values as variables
  pub fine_start : IsWhole n cs (group_of (first_values t))
  fine_start =
      let one = length-append (map (λ v. starts_as v.shape v.start) t.vars) (map zero_of (returns t)) in
      let two = length-append (declared t) (returns t) in
      let three = length-map t.vars (λ v. starts_as v.shape v.start) in
      let four = length-map t.vars (λ v. v.shape) in
      let five = length-map (returns t) zero_of in
      (first_values t, refl, omega (arith, one, two, three, four, five))

  pub values_are : (assembled t).values ≡ more n cs (group_of (first_values t))
  values_are = ap group_of (append_assoc (first_values t) (map Num (constants t)) (map text_value (texts t))) ∙ sym (more_group n cs (first_values t))

  lists_group : (vs : List Value) → lists_in (group_of (vs ++ cs)) ≡ lists_in (group_of vs) + length (texts t)
  lists_group vs = lists-append vs cs ∙ ap (λ k. lists_in (group_of vs) + k) (constant_lists t)

  pub lists_are : (v : Value) → IsWhole n cs v → lists_in (more n cs v) ≡ lists_in v + length (texts t)
  lists_are v whole = subst (λ u. lists_in (more n cs u) ≡ lists_in u + length (texts t)) (sym whole.1) (ap lists_in (more_group n cs whole.0) ∙ lists_group whole.0)

  footprint_group : (rows : ℕ) (vs : List Value) → length vs ≡ n
      → round4 (static_size t) + round4 (row_size * rows) + list_bytes (Cluster (members (all_shapes t))) (group_of (vs ++ cs))
      ≡ round4 (static_size t) + round4 (row_size * rows) + list_bytes (Cluster (members (shapes t))) (group_of vs) + text_bytes t
  footprint_group rows vs many =
      ap (λ k. round4 (static_size t) + round4 (row_size * rows) + k)
      (ap (member_bytes (members (all_shapes t))) (items-values (vs ++ cs)) ∙ all_bytes t vs many ∙ ap (λ ws. member_bytes (members (shapes t)) ws + text_bytes t) (sym (items-values vs)))
      ∙ by (round4 (static_size t)) (round4 (row_size * rows)) (list_bytes (Cluster (members (shapes t))) (group_of vs)) (text_bytes t)
    where
      by : (a b c d : ℕ) → a + b + (c + d) ≡ a + b + c + d
      by a b c d = omega arith

  pub footprint_is : (rows : ℕ) (v : Value) → IsWhole n cs v → (image.program_of (assembled t)).footprint rows (more n cs v) ≡ (text.program_of t).footprint rows v
  footprint_is rows v whole =
      subst (λ u. (image.program_of (assembled t)).footprint rows (more n cs u) ≡ (text.program_of t).footprint rows u) (sym whole.1)
      (ap ((image.program_of (assembled t)).footprint rows) (more_group n cs whole.0) ∙ footprint_group rows whole.0 whole.2)

  pub variables_are : length (assembled t).entries ≡ (text.program_of t).variables
  variables_are =
      let all = table_length (members (all_shapes t)) (places (leaves_sizes (members (all_shapes t)))) in
      let sums = sizes-members (all_shapes t) in
      let parts = sum_all size t in
      let own : sum_by size (take (length (shapes t)) (shapes t)) ≡ sum_by size (shapes t) = ap (sum_by size) (take_all (shapes t)) in
      all ∙ sums ∙ parts ∙ by (sum_by size (shapes t)) (sum_by size (take (length (shapes t)) (shapes t))) (length (constants t)) (length (texts t)) own
    where
      by : (a b c d : ℕ) → b ≡ a → a + 1 * c + 2 * d ≡ b + c + 2 * d
      by a b c d e = omega (arith, e)

-- the rows at the start
pub rows_are : (p : NbcProgram) → All (λ v. StartFits v.shape v.start) p.vars → (image.program_of (assembled (text_of p))).rows ≡ (text.program_of (text_of p)).rows
rows_are p starts =
    let t : Text = text_of p in
    let first : ℕ = lists_in (group_of (first_values t)) + length (texts t) in
    let lists : lists_in (assembled t).values ≡ first = ap lists_in (values_are t) ∙ lists_are t (group_of (first_values t)) (fine_start t) in
    let arrays : arrays_among (members (all_shapes t)) + 1 ≡ first + 1 = ap (λ k. k + 1) (arrays_among-members (all_shapes t)) ∙ sym (rows_counted p starts) in
    by (arrays_among (members (all_shapes t)) + 1) (lists_in (assembled t).values) first arrays lists
  where
    by : (a b c : ℕ) → a ≡ c + 1 → b ≡ c → max a (b + 1) ≡ c + 1
    by a b c e f = omega (arith, e, f)
