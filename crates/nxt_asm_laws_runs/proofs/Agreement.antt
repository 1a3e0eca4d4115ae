-- The operands of a text and the words of its code refer to the same.
use Rattle.std.proofs.Common.{◌≡◌, ℕ, zero, suc, ◌+◌, ◌<◌, ◌≤◌, Bool, true, false, ℤ, List, [], ◌∷◌, ◌++◌, map, length, get_or, Some, refl, sym, ap, subst, ◌∙◌, arith, bytes_eq, length-append, ne_eqb}
use Rattle.std.specs.Prelude.{if◌then◌else◌, nat_abs, slice_index_or, sum_by, zip}
use Rattle.std.specs.Ordering.{int_eq}
use Rattle.std.proofs.lemmas.Bool.{both_ways}
use Rattle.std.proofs.lemmas.Bool.Decides.{Decides-int_eq}
use Rattle.std.proofs.lemmas.List.{get_or-append-add, get_or_append_left, length-map}
use Rattle.std.proofs.lemmas.Slice.Eq.{bytes_eq-Decides}
use Rattle.nxt_facts.proofs.Each.{Each}
use Rattle.nxt_types.specs.Names.{Name, named, size}
use Rattle.nxt_types.specs.OperandRules.{is_destination}
use Rattle.nxt_types.specs.Shapes.{Members, Number, Shape, Void, members}
use Rattle.nxt_types.specs.declared.instr.Op.{Op}
use Rattle.nxt_types.specs.declared.kind.Kind.TheVariants.{Ubyte}
use Rattle.nxt_types.specs.declared.opcodes.Class.{Class}
use Rattle.nxt_types.specs.declared.opcodes.Class.TheVariants.{Immediate, Clump, Offset, OptionalOut, OptionalIn}
use Rattle.nxt_model.specs.declared.nbc.NbcArg.{NbcArg}
use Rattle.nxt_model.specs.declared.nbc.NbcArg.TheVariants as args
use Rattle.nxt_model.specs.Assembled.{all_shapes, arg_word, entry_of, place_among}
use Rattle.nxt_model.specs.TextProgram.{Text, constant, constants, declared, reference, returns, shapes, subroutine_number, subroutines, text_shape, text_value, texts}
use Rattle.nxt_model.specs.Values.{Value, Num}
use Rattle.nxt_model.specs.Variables.{Absent, PartOf, part_of, refers}
use Rattle.nxt_asm_laws_code.specs.Suits.{SuitFrom, Suits, is_part_class}
use Rattle.nxt_asm_laws_code.specs.There.{IsThere}
use Rattle.nxt_asm_laws_code.proofs.Laws.Operands.{named_number, named_part, named_return, named_text}
use Rattle.nxt_asm_laws_runs.proofs.Constants.{AgreeAll, Agrees, IsPlace, zero_value}

-- ---- lists

-- an element that is among others is found at its place
place_found : {A : Type 0} (same : A → A → Bool) → ((x y : A) → same x y ≡ true → x ≡ y) → (f : A → Value) (x : A) (xs : List A) → place_among same x xs < length xs
    → get_or (map f xs) (place_among same x xs) zero_value ≡ f x
place_found same alike f x [] lt = absurd (omega (arith, lt))
place_found {A} same alike f x (y ∷ ys) lt = by (same x y) refl lt (place_found same alike f x ys)
  where
    by : (b : Bool) → same x y ≡ b → (if b then 0 else place_among same x ys + 1) < length (y ∷ ys)
        → (place_among same x ys < length ys → get_or (map f ys) (place_among same x ys) zero_value ≡ f x)
        → get_or (f y ∷ map f ys) (if b then 0 else place_among same x ys + 1) zero_value ≡ f x
    by true e lt more = ap f (sym (alike x y e))
    by false e lt more =
        let next : place_among same x ys + 1 ≡ suc (place_among same x ys) = omega arith in
        ap (λ k. get_or (f y ∷ map f ys) k zero_value) next ∙ more (omega (arith, lt))

same_at : {X : Type 0} (s : Shape) (xs : List X) (j : ℕ) → j < length xs → slice_index_or (map (λ x. s) xs) j Void ≡ s
same_at s [] j lt = absurd (omega (arith, lt))
same_at s (x ∷ xs) zero lt = refl
same_at s (x ∷ xs) (suc j) lt = same_at s xs j (omega (arith, lt))

-- how many variables there are, and the constants behind them
abbrev pub variable_count : Text → ℕ
variable_count p = length (shapes p)

abbrev pub constant_values : Text → List Value
constant_values p = map Num (constants p) ++ map text_value (texts p)

-- ---- words of entries

-- an entry refers to what it names
refers_part : (ss : Members) (c : Class) (w : ℕ) → is_part_class c ≡ true → w < 49152 → refers ss c w ≡ part_of (named ss w)
refers_part ss Immediate w e lt = absurd (both_ways false refl e)
refers_part ss Clump w e lt = absurd (both_ways false refl e)
refers_part ss Offset w e lt = absurd (both_ways false refl e)
refers_part ss OptionalOut w e lt = ap (λ b. if b then Absent else part_of (named ss w)) (ne_eqb w 65535 (λ is. omega (arith, is, lt)))
refers_part ss OptionalIn w e lt = ap (λ b. if b then Absent else part_of (named ss w)) (ne_eqb w 65535 (λ is. omega (arith, is, lt)))
refers_part ss c w e lt = refl

-- and the word that leaves an operand out refers to nothing
refers_absent : (ss : Members) (c : Class) → is_part_class c ≡ true → refers ss c 65535 ≡ Absent
refers_absent ss Immediate e = absurd (both_ways false refl e)
refers_absent ss Clump e = absurd (both_ways false refl e)
refers_absent ss Offset e = absurd (both_ways false refl e)
refers_absent ss c e = refl

module _ (p : Text) (few : sum_by size (all_shapes p) ≤ 49151) where
  abbrev n : ℕ
  n = variable_count p

  abbrev cs : List Value
  cs = constant_values p

  abbrev ss : Members
  ss = members (all_shapes p)

  -- an entry with a name
  refers_named : (c : Class) (w : ℕ) (x : Name) → is_part_class c ≡ true → (named ss w ≡ Some x) × (w < 49152) → refers ss c w ≡ PartOf x
  refers_named c w x e h = refers_part ss c w e h.1 ∙ ap part_of h.0

  -- the constants by their places
  number_there : (z : ℤ) → place_among int_eq (constant z) (constants p) < length (constants p) → get_or cs (place_among int_eq (constant z) (constants p)) zero_value ≡ Num (constant z)
  number_there z lt =
      get_or_append_left (map Num (constants p)) (map text_value (texts p)) zero_value (place_among int_eq (constant z) (constants p))
      (subst (λ m. place_among int_eq (constant z) (constants p) < m) (sym (length-map (constants p) Num)) lt)
      ∙ place_found int_eq (λ x y. (Decides-int_eq x y).0) Num (constant z) (constants p) lt

  text_there : (bytes : List ℕ) → place_among bytes_eq bytes (texts p) < length (texts p) → get_or cs (length (constants p) + place_among bytes_eq bytes (texts p)) zero_value ≡ text_value bytes
  text_there bytes lt =
      ap (λ m. get_or cs (m + place_among bytes_eq bytes (texts p)) zero_value) (sym (length-map (constants p) Num))
      ∙ get_or-append-add (map Num (constants p)) (map text_value (texts p)) (place_among bytes_eq bytes (texts p)) zero_value
      ∙ place_found bytes_eq (λ x y. (bytes_eq-Decides x y).0) text_value bytes (texts p) lt

  -- a return variable's shape
  return_shape : (j : ℕ) → j < length (returns p) → slice_index_or (shapes p) (length (declared p) + j) Void ≡ Number Ubyte
  return_shape j lt =
      let many = length-map (subroutines p.blocks) (λ b. Number Ubyte) in
      get_or-append-add (declared p) (returns p) j Void ∙ same_at (Number Ubyte) (subroutines p.blocks) j (omega (arith, lt, many))

  module _ (at : List ℕ) (here : ℕ) where
    -- an operand and its word
    pub agree : (c : Class) (stored : Bool) (a : NbcArg) → IsThere p a → Suits c stored a → Agrees n cs (reference p a) (refers ss c (arg_word p at here a))
    agree c stored args.Left there suits = refers_absent ss c suits
    agree c stored (args.Var i path) there suits =
        let both = length-append (declared p) (returns p) in
        let under = there.0 in
        (refers_named c (entry_of (all_shapes p) i (map nat_abs path)) _ suits (named_part p few i (map nat_abs path) there.0 there.1), omega (arith, under, both))
    agree c stored (args.Number z) there suits =
        let k : ℕ = place_among int_eq (constant z) (constants p) in
        (k, refers_named c (entry_of (all_shapes p) (length (shapes p) + k) []) _ suits.0 (named_number p few k there), number_there z there)
    agree c stored (args.Text bytes) there suits =
        let j : ℕ = place_among bytes_eq bytes (texts p) in
        let same : length (shapes p) + length (constants p) + j ≡ n + (length (constants p) + j) = omega arith in (
          length (constants p) + j,
          refers_named c (entry_of (all_shapes p) (length (shapes p) + length (constants p) + j) []) _ suits.0 (named_text p few j there)
              ∙ ap (λ i. PartOf (record { path = i ∷ []; shape = text_shape })) same,
          text_there bytes there,
        )
    agree c stored (args.Imm m) there suits = ap (λ x. refers ss x m) suits
    agree c stored (args.Block b) there suits = ap (λ x. refers ss x b) suits
    agree c stored (args.Back b) there suits =
        let j : ℕ = subroutine_number p b in
        let both = length-append (declared p) (returns p) in
        let under = there in (
          refers_named c (entry_of (all_shapes p) (length (declared p) + j) []) _ suits (named_return p few j there)
              ∙ ap (λ s. PartOf (record { path = (length (declared p) + j) ∷ []; shape = s })) (sym (return_shape j there)),
          omega (arith, under, both),
        )
    agree c stored (args.Jump place) there suits = ap (λ x. refers ss x (arg_word p at here (args.Jump place))) suits

    -- operands side by side with their classes
    pub agree_all : (op : Op) (k : ℕ) (classes : List Class) (xs : List NbcArg) → Each (IsThere p) xs → SuitFrom op k classes xs
        → AgreeAll n cs (map (reference p) xs) (map (λ q. refers ss q.0 q.1) (zip classes (map (arg_word p at here) xs)))
    agree_all op k [] [] there suits = tt
    agree_all op k [] (a ∷ xs) there suits = absurd suits
    agree_all op k (c ∷ classes) [] there suits = absurd suits
    agree_all op k (c ∷ classes) (a ∷ xs) there suits = (agree c (is_destination op k) a there.0 suits.0, agree_all op (k + 1) classes xs there.1 suits.1)

-- ---- destinations

module _ (p : Text) where
  place_of : (c : Class) (a : NbcArg) → Suits c true a → IsPlace (reference p a)
  place_of c args.Left h = tt
  place_of c (args.Var i path) h = tt
  place_of c (args.Number z) h = both_ways true h.1 refl
  place_of c (args.Text bytes) h = both_ways true h.1 refl
  place_of c (args.Imm m) h = tt
  place_of c (args.Block b) h = tt
  place_of c (args.Back b) h = tt
  place_of c (args.Jump place) h = tt

  -- no constant is a destination
  pub places_of : (op : Op) (j : ℕ) (classes : List Class) (xs : List NbcArg) → SuitFrom op j classes xs → (k : ℕ) → is_destination op (j + k) ≡ true
      → IsPlace (slice_index_or (map (reference p) xs) k Absent)
  places_of op j [] [] suits zero e = tt
  places_of op j [] [] suits (suc k) e = tt
  places_of op j [] (a ∷ xs) suits k e = absurd suits
  places_of op j (c ∷ classes) [] suits k e = absurd suits
  places_of op j (c ∷ classes) (a ∷ xs) suits zero e =
      let first : j ≡ j + 0 = omega arith in place_of c a (subst (λ b. Suits c b a) (ap (is_destination op) first ∙ e) suits.0)
  places_of op j (c ∷ classes) (a ∷ xs) suits (suc k) e =
      let next : j + 1 + k ≡ j + suc k = omega arith in places_of op (j + 1) classes xs suits.1 k (ap (is_destination op) next ∙ e)
