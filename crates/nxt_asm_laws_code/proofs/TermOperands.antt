-- Operands by their terms and by their words.
use Rattle.std.proofs.Common.{◌≡◌, ℕ, ◌<◌, ◌≤◌, Bool, true, false, List, [], ◌∷◌, map, length, pos, Some, refl, sym, ap, subst, ◌∙◌, inl, inr, arith, ne_eqb, bytes_eq}
use Rattle.std.specs.Prelude.{if◌then◌else◌, ℤ, nat_abs, slice_get, sum_by}
use Rattle.std.specs.Ordering.{int_eq}
use Rattle.std.proofs.lemmas.Bool.{both_ways, lt-ltb}
use Rattle.std.proofs.lemmas.Option.{slice_get_within}
use Rattle.nxt_types.specs.Arithmetic.{cut}
use Rattle.nxt_types.specs.Names.{named, size}
use Rattle.nxt_types.specs.OperandRules.{Absent, Part, Sort, Unknown, Word, is_of_class, sort_of, sort_of_name}
use Rattle.nxt_types.specs.Shapes.{Members, Number, Shape, members}
use Rattle.nxt_types.specs.declared.kind.Kind.TheVariants.{Ubyte, Slong}
use Rattle.nxt_types.specs.declared.opcodes.Class.{Class}
use Rattle.nxt_types.specs.declared.opcodes.Class.TheVariants.{Immediate, Clump, Offset, OptionalOut, OptionalIn}
use Rattle.nxt_model.specs.declared.nbc.NbcArg.{NbcArg}
use Rattle.nxt_model.specs.declared.nbc.NbcArg.TheVariants as args
use Rattle.nxt_model.specs.Nbc.Forms.{Term}
use Rattle.nxt_model.specs.Nbc.NbcRules.{has_class, is_number, is_subroutine, sort_of_denoted, sort_of_number, sort_of_term}
use Rattle.nxt_model.specs.Nbc.Text.{Source, Block, Denoted, AVariable, ANumber, AText, ABlock, AType, Missing, LabelAt, arg_of, denoted, denoted_arg, is_left_out, is_word, number_arg, ordered, program_of}
use Rattle.nxt_model.specs.Assembled.{all_shapes, arg_word, entry_of, place_among}
use Rattle.nxt_model.specs.TextProgram.{Text, constant, constants, returns, shape_of_part, subroutine_number, text_shape, texts}
use Rattle.nxt_asm_laws.proofs.Laws.Dependents.{length-ordered, length-program_of}
use Rattle.nxt_asm_laws_code.specs.Suits.{is_part_class}
use Rattle.nxt_asm_laws_code.proofs.Listed.{IsListed}
use Rattle.nxt_asm_laws_code.proofs.Laws.Operands.{declared_at, named_number, named_part, named_return, named_text}
use Rattle.nxt_asm_laws_code.proofs.MatchedSorts.{Matches}
use Rattle.nxt_asm_laws_code.proofs.SourceTerms.{HasPart, NamesBlock}

-- ---- classes of parts

-- a name of nothing is of none, and neither is a word
pub unknown_refused : (c : Class) → is_part_class c ≡ true → is_of_class 1 c Unknown ≡ false
unknown_refused Immediate e = absurd (both_ways false refl e)
unknown_refused Clump e = absurd (both_ways false refl e)
unknown_refused Offset e = absurd (both_ways false refl e)
unknown_refused c e = refl

pub word_refused : (c : Class) → is_part_class c ≡ true → is_of_class 1 c (Word 0) ≡ false
word_refused Immediate e = absurd (both_ways false refl e)
word_refused Clump e = absurd (both_ways false refl e)
word_refused Offset e = absurd (both_ways false refl e)
word_refused c e = refl

-- an entry's sort is what it names
pub sort_of-part : (ss : Members) (c : Class) (w : ℕ) → is_part_class c ≡ true → w < 49152 → sort_of ss c w ≡ sort_of_name (named ss w)
sort_of-part ss Immediate w e lt = absurd (both_ways false refl e)
sort_of-part ss Clump w e lt = absurd (both_ways false refl e)
sort_of-part ss Offset w e lt = absurd (both_ways false refl e)
sort_of-part ss OptionalOut w e lt = ap (λ b. if b then Absent else sort_of_name (named ss w)) (ne_eqb w 65535 (λ is. omega (arith, is, lt)))
sort_of-part ss OptionalIn w e lt = ap (λ b. if b then Absent else sort_of_name (named ss w)) (ne_eqb w 65535 (λ is. omega (arith, is, lt)))
sort_of-part ss c w e lt = refl

-- ---- words of operands

-- positions as the operand has them
pub positions : (path : List ℕ) → map nat_abs (map pos path) ≡ path
positions [] = refl
positions (k ∷ path) = ap (λ ks. k ∷ ks) (positions path)

-- the operand's word is an entry of this shape
abbrev pub IsEntry : Text → List ℕ → ℕ → NbcArg → Shape → Type 0
IsEntry p at here a s = (sort_of_name (named (members (all_shapes p)) (arg_word p at here a)) ≡ Part s) × (arg_word p at here a < 49152)

module _ (p : Text) (few : sum_by size (all_shapes p) ≤ 49151) (at : List ℕ) (here : ℕ) where
  pub number_entry : (z : ℤ) → IsListed p (args.Number z) → IsEntry p at here (args.Number z) (Number Slong)
  number_entry z h = let both = named_number p few (place_among int_eq (constant z) (constants p)) h in (ap sort_of_name both.0, both.1)

  -- a text, and a return variable
  text_entry : (bytes : List ℕ) → IsListed p (args.Text bytes) → IsEntry p at here (args.Text bytes) text_shape
  text_entry bytes h = let both = named_text p few (place_among bytes_eq bytes (texts p)) h in (ap sort_of_name both.0, both.1)

  pub return_entry : (b : ℕ) → subroutine_number p b < length (returns p) → IsEntry p at here (args.Back b) (Number Ubyte)
  return_entry b h = let both = named_return p few (subroutine_number p b) h in (ap sort_of_name both.0, both.1)

module _ (src : Source) (few : sum_by size (all_shapes (program_of src)) ≤ 49151) (at : List ℕ) (here : ℕ) where
  variable_entry : (i : ℕ) (path : List ℕ) (s : Shape) → HasPart src (AVariable i path s) → IsEntry (program_of src) at here (args.Var i (map pos path)) s
  variable_entry i path s h =
      let p : Text = program_of src in
      let both = named_part p few i path h.0 h.1 in
      let same : sort_of_name (named (members (all_shapes p)) (entry_of (all_shapes p) i path)) ≡ Part s =
      ap sort_of_name both.0 ∙ ap Part (ap (λ x. shape_of_part x path) (declared_at p few i h.0) ∙ h.2) in
      subst (λ ks. (sort_of_name (named (members (all_shapes p)) (entry_of (all_shapes p) i ks)) ≡ Part s) × (entry_of (all_shapes p) i ks < 49152)) (sym (positions path)) (same, both.1)

  -- the sort of an operand that is of a class of parts, by its word
  abbrev pub SameSort : Sort → NbcArg → Type 0
  SameSort o a = (o ≡ sort_of_name (named (members (all_shapes (program_of src))) (arg_word (program_of src) at here a))) × (arg_word (program_of src) at here a < 49152)

  -- an entry has the sort of its shape
  entry_same : (a : NbcArg) (s : Shape) → IsEntry (program_of src) at here a s → SameSort (Part s) a
  entry_same a s h = (sym h.0, h.1)

  -- numbers, texts and blocks
  number_same : (c : Class) (stored : Bool) (z : ℤ) → is_part_class c ≡ true → is_of_class 1 c (sort_of_number c stored z) ≡ true → IsListed (program_of src) (number_arg c z)
      → SameSort (sort_of_number c stored z) (number_arg c z)
  number_same Immediate stored z e kind listed = absurd (both_ways false refl e)
  number_same Clump stored z e kind listed = absurd (both_ways false refl e)
  number_same Offset stored z e kind listed = absurd (both_ways false refl e)
  number_same c true z e kind listed = absurd (both_ways (is_of_class 1 c Unknown) (unknown_refused c e) kind)
  number_same c false z e kind listed = entry_same (args.Number (cut Slong z)) (Number Slong) (number_entry (program_of src) few at here (cut Slong z) listed)

  text_same : (c : Class) (stored : Bool) (bytes : List ℕ) → is_part_class c ≡ true → is_of_class 1 c (if stored then Unknown else Part text_shape) ≡ true
      → IsListed (program_of src) (args.Text bytes) → SameSort (if stored then Unknown else Part text_shape) (args.Text bytes)
  text_same c true bytes e kind listed = absurd (both_ways (is_of_class 1 c Unknown) (unknown_refused c e) kind)
  text_same c false bytes e kind listed = entry_same (args.Text bytes) text_shape (text_entry (program_of src) few at here bytes listed)

  block_refused : (c : Class) (sub : Bool) → is_part_class c ≡ true → is_of_class 1 c (if sub then Word 0 else Unknown) ≡ true → ⊥
  block_refused c true e kind = both_ways (is_of_class 1 c (Word 0)) (word_refused c e) kind
  block_refused c false e kind = both_ways (is_of_class 1 c Unknown) (unknown_refused c e) kind

  -- whatever the operand stands for
  pub part_same : (c : Class) (stored : Bool) (d : Denoted) → is_part_class c ≡ true → HasPart src d → is_of_class 1 c (sort_of_denoted c stored d) ≡ true
      → IsListed (program_of src) (denoted_arg c d) → SameSort (sort_of_denoted c stored d) (denoted_arg c d)
  part_same c stored (AVariable i path s) e part kind listed = entry_same (args.Var i (map pos path)) s (variable_entry i path s part)
  part_same c stored (ANumber z) e part kind listed = number_same c stored z e kind listed
  part_same c stored (AText bytes) e part kind listed = text_same c stored bytes e kind listed
  part_same c stored (ABlock k sub) e part kind listed = absurd (block_refused c sub e kind)
  part_same c stored AType e part kind listed = absurd (both_ways (is_of_class 1 c Unknown) (unknown_refused c e) kind)
  part_same c stored Missing e part kind listed = absurd (both_ways (is_of_class 1 c Unknown) (unknown_refused c e) kind)

  -- ---- classes

  -- the words of operands, and what they name
  abbrev pub word : NbcArg → ℕ
  word a = arg_word (program_of src) at here a

  abbrev pub shapes_in : Members
  shapes_in = members (all_shapes (program_of src))

  -- parts
  part_matches : (c : Class) (stored : Bool) (d : Denoted) → is_part_class c ≡ true → HasPart src d → is_of_class 1 c (sort_of_denoted c stored d) ≡ true
      → IsListed (program_of src) (denoted_arg c d) → sort_of_denoted c stored d ≡ sort_of shapes_in c (word (denoted_arg c d))
  part_matches c stored d e part kind listed =
      let both = part_same c stored d e part kind listed in
      both.0 ∙ sym (sort_of-part shapes_in c (word (denoted_arg c d)) e both.1)

  -- immediates
  immediate_matches : (n : ℕ) (stored : Bool) (d : Denoted) → is_number d ≡ true
      → Matches n Immediate (sort_of_denoted Immediate stored d) (Word (word (denoted_arg Immediate d)))
  immediate_matches n stored (ANumber z) e = by (is_word z)
    where
      by : (b : Bool) → Matches n Immediate (Word (if b then nat_abs z else 65535)) (Word (word (if b then args.Imm (nat_abs z) else args.Number (cut Slong z))))
      by true = inl refl
      by false = inr refl
  immediate_matches n stored (AVariable i path s) e = absurd (both_ways false refl e)
  immediate_matches n stored (AText bytes) e = absurd (both_ways false refl e)
  immediate_matches n stored (ABlock k sub) e = absurd (both_ways false refl e)
  immediate_matches n stored AType e = absurd (both_ways false refl e)
  immediate_matches n stored Missing e = absurd (both_ways false refl e)

  -- the number of a block is below their number
  pub block_below : (k : ℕ) (b : Block) → slice_get (ordered src) k ≡ Some b → k < length (program_of src).blocks
  block_below k b e =
      let lt = slice_get_within (ordered src) k b e in
      let all = length-program_of src in
      let same = length-ordered src in
      omega (arith, lt, all, same)

  -- blocks
  clumped_matches : (t : Term) (d : Denoted) → is_subroutine d ≡ true → NamesBlock src t d
      → is_of_class (length (program_of src).blocks) Clump (Word (word (denoted_arg Clump d))) ≡ true
  clumped_matches t (ABlock k sub) e names = lt-ltb k (length (program_of src).blocks) (block_below k names.1 names.2)
  clumped_matches t (ANumber z) e names = absurd (both_ways false refl e)
  clumped_matches t (AVariable i path s) e names = absurd (both_ways false refl e)
  clumped_matches t (AText bytes) e names = absurd (both_ways false refl e)
  clumped_matches t AType e names = absurd (both_ways false refl e)
  clumped_matches t Missing e names = absurd (both_ways false refl e)

  -- an operand that is of its class matches its word
  module _ (ls : List LabelAt) (line : ℕ) (stored : Bool) (t : Term) (part : HasPart src (denoted src line t)) (names : NamesBlock src t (denoted src line t)) where
    pub term_matches : (c : Class) → has_class src line c t ≡ true → is_of_class 1 c (sort_of_term src line c stored t) ≡ true → IsListed (program_of src) (arg_of src ls line c t)
        → Matches (length (program_of src).blocks) c (sort_of_term src line c stored t) (sort_of shapes_in c (word (arg_of src ls line c t)))
    term_matches Immediate class kind listed = immediate_matches (length (program_of src).blocks) stored (denoted src line t) class
    term_matches Clump class kind listed = clumped_matches t (denoted src line t) class names
    term_matches Offset class kind listed = tt
    term_matches OptionalOut class kind listed = by (is_left_out src line t) kind listed
      where
        by : (b : Bool) → is_of_class 1 OptionalOut (if b then Absent else sort_of_denoted OptionalOut stored (denoted src line t)) ≡ true
            → IsListed (program_of src) (if b then args.Left else denoted_arg OptionalOut (denoted src line t))
            → (if b then Absent else sort_of_denoted OptionalOut stored (denoted src line t))
            ≡ sort_of shapes_in OptionalOut (word (if b then args.Left else denoted_arg OptionalOut (denoted src line t)))
        by true k l = refl
        by false k l = part_matches OptionalOut stored (denoted src line t) refl part k l
    term_matches OptionalIn class kind listed = by (is_left_out src line t) kind listed
      where
        by : (b : Bool) → is_of_class 1 OptionalIn (if b then Absent else sort_of_denoted OptionalIn stored (denoted src line t)) ≡ true
            → IsListed (program_of src) (if b then args.Left else denoted_arg OptionalIn (denoted src line t))
            → (if b then Absent else sort_of_denoted OptionalIn stored (denoted src line t))
            ≡ sort_of shapes_in OptionalIn (word (if b then args.Left else denoted_arg OptionalIn (denoted src line t)))
        by true k l = refl
        by false k l = part_matches OptionalIn stored (denoted src line t) refl part k l
    term_matches c class kind listed = part_matches c stored (denoted src line t) refl part kind listed
