-- The operands of a text's statements are of the classes that their words are read by.
use Rattle.std.proofs.Common.{◌≡◌, ℕ, suc, ◌+◌, ◌<◌, ◌≤◌, Bool, true, false, ◌||◌, List, [], ◌∷◌, map, length, refl, sym, ap, subst, ◌∙◌, arith, eqb-true}
use Rattle.std.specs.Prelude.{if◌then◌else◌, nat_abs, slice_index_or, sum_by, zip}
use Rattle.std.proofs.lemmas.Bool.{both_ways}
use Rattle.std.proofs.lemmas.List.{length-map}
use Rattle.nxt_types.specs.Arithmetic.{cut}
use Rattle.nxt_types.specs.Names.{size}
use Rattle.nxt_types.specs.Opcodes.{classes}
use Rattle.nxt_types.specs.OperandRules.{Absent, Unknown, Word, is_destination, is_of_class, sort_at}
use Rattle.nxt_types.specs.declared.instr.Op.{Op}
use Rattle.nxt_types.specs.declared.instr.Op.TheVariants as ops
use Rattle.nxt_types.specs.declared.kind.Cmp.{Cmp}
use Rattle.nxt_types.specs.declared.kind.Kind.TheVariants.{Slong}
use Rattle.nxt_types.specs.declared.opcodes.Class.{Class}
use Rattle.nxt_types.specs.declared.opcodes.Class.TheVariants.{Anything, Immediate, Clump, Offset, OptionalOut, OptionalIn, NumberOut}
use Rattle.nxt_model.specs.declared.nbc.NbcArg.{NbcArg}
use Rattle.nxt_model.specs.declared.nbc.NbcArg.TheVariants as args
use Rattle.nxt_model.specs.Nbc.Forms.{Term, Named, Literal, Quote}
use Rattle.nxt_model.specs.Nbc.NbcRules.{has_class, is_label, is_number, is_subroutine, sort_of_denoted, sort_of_term, sorts_of}
use Rattle.nxt_model.specs.Nbc.Text as text
use Rattle.nxt_model.specs.Nbc.Text.{Source, Denoted, AVariable, ANumber, AText, ABlock, AType, Missing, LabelAt, arg_of, args_of, denoted, denoted_arg, is_left_out, is_word, label_arg, number_arg, program_of}
use Rattle.nxt_model.specs.Assembled.{all_shapes, is_constant}
use Rattle.nxt_asm_laws.proofs.Laws.Forms.{is_end}
use Rattle.nxt_asm_laws_code.specs.Suits.{IsSuited, SuitFrom, Suits, is_part_class}
use Rattle.nxt_asm_laws_code.proofs.Narrow.{immediate_narrow}
use Rattle.nxt_asm_laws_code.proofs.SetFits.{plain_first}
use Rattle.nxt_asm_laws_code.proofs.SortRules.{is_set}
use Rattle.nxt_asm_laws_code.proofs.SourceTerms.{HasPart, NamesBlock}
use Rattle.nxt_asm_laws_code.proofs.StatementFits.{IsFine, code_op-other, length-zip, long, many, right_class, right_number, right_term, sorts_at}
use Rattle.nxt_asm_laws_code.proofs.TermOperands.{unknown_refused, word_refused}

-- ---- operands

-- a number that is a word, or no immediate
abbrev IsNarrow : Class → Denoted → Type 0
IsNarrow Immediate (ANumber z) = is_word z ≡ true
IsNarrow c d = Unit {0}

part_suits : (c : Class) (stored : Bool) (d : Denoted) → is_part_class c ≡ true → is_of_class 1 c (sort_of_denoted c stored d) ≡ true → Suits c stored (denoted_arg c d)
part_suits c stored (AVariable i path s) e kind = e
part_suits Immediate stored (ANumber z) e kind = absurd (both_ways false refl e)
part_suits Clump stored (ANumber z) e kind = absurd (both_ways false refl e)
part_suits Offset stored (ANumber z) e kind = absurd (both_ways false refl e)
part_suits c true (ANumber z) e kind = absurd (both_ways (is_of_class 1 c Unknown) (unknown_refused c e) kind)
part_suits c false (ANumber z) e kind = (e, refl)
part_suits c true (AText bytes) e kind = absurd (both_ways (is_of_class 1 c Unknown) (unknown_refused c e) kind)
part_suits c false (AText bytes) e kind = (e, refl)
part_suits c stored (ABlock k true) e kind = absurd (both_ways (is_of_class 1 c (Word 0)) (word_refused c e) kind)
part_suits c stored (ABlock k false) e kind = absurd (both_ways (is_of_class 1 c Unknown) (unknown_refused c e) kind)
part_suits c stored AType e kind = absurd (both_ways (is_of_class 1 c Unknown) (unknown_refused c e) kind)
part_suits c stored Missing e kind = absurd (both_ways (is_of_class 1 c Unknown) (unknown_refused c e) kind)

immediate_suits : (stored : Bool) (d : Denoted) → is_number d ≡ true → IsNarrow Immediate d → Suits Immediate stored (denoted_arg Immediate d)
immediate_suits stored (ANumber z) e narrow = subst (λ b. Suits Immediate stored (if b then args.Imm (nat_abs z) else args.Number (cut Slong z))) (sym narrow) refl
immediate_suits stored (AVariable i path s) e narrow = absurd (both_ways false refl e)
immediate_suits stored (AText bytes) e narrow = absurd (both_ways false refl e)
immediate_suits stored (ABlock k sub) e narrow = absurd (both_ways false refl e)
immediate_suits stored AType e narrow = absurd (both_ways false refl e)
immediate_suits stored Missing e narrow = absurd (both_ways false refl e)

block_suits : (stored : Bool) (d : Denoted) → is_subroutine d ≡ true → Suits Clump stored (denoted_arg Clump d)
block_suits stored (ABlock k sub) e = refl
block_suits stored (ANumber z) e = absurd (both_ways false refl e)
block_suits stored (AVariable i path s) e = absurd (both_ways false refl e)
block_suits stored (AText bytes) e = absurd (both_ways false refl e)
block_suits stored AType e = absurd (both_ways false refl e)
block_suits stored Missing e = absurd (both_ways false refl e)

label_suits : (stored : Bool) (ls : List LabelAt) (t : Term) → is_label t ≡ true → Suits Offset stored (label_arg ls t)
label_suits stored ls (Named (l ∷ [])) e = refl
label_suits stored ls (Named []) e = absurd (both_ways false refl e)
label_suits stored ls (Named (l ∷ m ∷ ms)) e = absurd (both_ways false refl e)
label_suits stored ls (Literal z) e = absurd (both_ways false refl e)
label_suits stored ls (Quote s) e = absurd (both_ways false refl e)

module _ (src : Source) (ls : List LabelAt) (line : ℕ) where
  -- whatever the class
  term_suits : (c : Class) (stored : Bool) (t : Term) → has_class src line c t ≡ true → is_of_class 1 c (sort_of_term src line c stored t) ≡ true → IsNarrow c (denoted src line t)
      → Suits c stored (arg_of src ls line c t)
  term_suits Immediate stored t class kind narrow = immediate_suits stored (denoted src line t) class narrow
  term_suits Clump stored t class kind narrow = block_suits stored (denoted src line t) class
  term_suits Offset stored t class kind narrow = label_suits stored ls t class
  term_suits OptionalOut stored t class kind narrow = by (is_left_out src line t) kind
    where
      by : (b : Bool) → is_of_class 1 OptionalOut (if b then Absent else sort_of_denoted OptionalOut stored (denoted src line t)) ≡ true
          → Suits OptionalOut stored (if b then args.Left else denoted_arg OptionalOut (denoted src line t))
      by true k = refl
      by false k = part_suits OptionalOut stored (denoted src line t) refl k
  term_suits OptionalIn stored t class kind narrow = by (is_left_out src line t) kind
    where
      by : (b : Bool) → is_of_class 1 OptionalIn (if b then Absent else sort_of_denoted OptionalIn stored (denoted src line t)) ≡ true
          → Suits OptionalIn stored (if b then args.Left else denoted_arg OptionalIn (denoted src line t))
      by true k = refl
      by false k = part_suits OptionalIn stored (denoted src line t) refl k
  term_suits c stored t class kind narrow = part_suits c stored (denoted src line t) refl kind

-- ---- statements

-- operands that suit by position suit one after another
suit_by : (op : Op) (g : Class × Term → NbcArg) (j : ℕ) (cs : List Class) (ts : List Term) → length cs ≡ length ts
    → ((k : ℕ) → k < length ts → Suits (slice_index_or cs k Immediate) (is_destination op (j + k)) (g (slice_index_or cs k Immediate, slice_index_or ts k (Named []))))
    → SuitFrom op j cs (map g (zip cs ts))
suit_by op g j [] [] same h = tt
suit_by op g j [] (t ∷ ts) same h = absurd (omega (arith, same))
suit_by op g j (c ∷ cs) [] same h = absurd (omega (arith, same))
suit_by op g j (c ∷ cs) (t ∷ ts) same h =
    let here : j + 0 ≡ j = omega arith in (
      subst (λ i. Suits c (is_destination op i) (g (c, t))) here (h 0 (omega arith)),
      suit_by op g (j + 1) cs ts (omega (arith, same))
          (λ k lt.
          let next : j + suc k ≡ j + 1 + k = omega arith in
          subst (λ i. Suits (slice_index_or cs k Immediate) (is_destination op i) (g (slice_index_or cs k Immediate, slice_index_or ts k (Named [])))) next (h (suc k) (omega (arith, lt)))),
    )

module _ (src : Source) (few : sum_by size (all_shapes (program_of src)) ≤ 49151) (parts : (line : ℕ) (t : Term) → HasPart src (denoted src line t))
    (names : (line : ℕ) (t : Term) → NamesBlock src t (denoted src line t)) (ls : List LabelAt) (line : ℕ) where
  -- an immediate is a word
  narrow_at : (op : Op) (ts : List Term) → IsFine src ls line op ts → is_set op ≡ false → is_end op ≡ false → (k : ℕ) → k < length ts → (c : Class) (d : Denoted)
      → c ≡ slice_index_or (classes op (length ts)) k Immediate → d ≡ denoted src line (slice_index_or ts k (Named [])) → IsNarrow c d
  narrow_at op ts h plain spoken k lt Immediate (ANumber z) is that = by (is_word z) refl
    where
      greatest : is_word z ≡ false → sort_at (sorts_of src line op ts) k ≡ Word 65535
      greatest e =
          sorts_at src line op 0 (classes op (length ts)) ts k (many src few parts names ls line op ts h) lt
          ∙ ap (λ c. sort_of_term src line c (is_destination op (0 + k)) (slice_index_or ts k (Named []))) (sym is)
          ∙ ap (sort_of_denoted Immediate (is_destination op (0 + k))) (sym that)
          ∙ ap (λ b. Word (if b then nat_abs z else 65535)) e

      by : (b : Bool) → is_word z ≡ b → is_word z ≡ true
      by true e = e
      by false e =
          absurd
          (immediate_narrow op (length ts) (sorts_of src line op ts) k h.taken (long src few parts names ls line op ts h) lt (sym is) plain spoken
          (right_number src few parts names ls line op ts h k lt) (greatest e))
  narrow_at op ts h plain spoken k lt c d is that = tt

  -- a statement other than a set
  other_suited : (op : Op) (cmp : Cmp) (ts : List Term) → IsFine src ls line op ts → is_set op ≡ false → is_end op ≡ false → IsSuited (text.statement line op cmp (args_of src ls line op ts))
  other_suited op cmp ts h plain spoken =
      let cs : List Class = classes op (length ts) in
      let g : Class × Term → NbcArg = λ p. arg_of src ls line p.0 p.1 in
      let xs : List NbcArg = args_of src ls line op ts in
      let same : length cs ≡ length ts = many src few parts names ls line op ts h in
      let args_long : length xs ≡ length ts = length-map (zip cs ts) g ∙ length-zip cs ts same in
      let suited : SuitFrom op 0 cs xs =
      suit_by op g 0 cs ts same
      (λ k lt.
      let c : Class = slice_index_or cs k Immediate in
      let t : Term = slice_index_or ts k (Named []) in
      term_suits src ls line c (is_destination op (0 + k)) t (right_term src few parts names ls line op ts h k lt).0 (right_class src few parts names ls line op ts h k lt)
      (narrow_at op ts h plain spoken k lt c (denoted src line t) refl refl)) in
      subst (λ o. SuitFrom op 0 (classes o (length xs)) xs) (sym (code_op-other op xs plain)) (subst (λ n. SuitFrom op 0 (classes op n) xs) (sym args_long) suited)

  -- ---- sets

  -- the destination of a set is one of a mov
  any_suits : (a : NbcArg) → Suits NumberOut true a → Suits Anything true a
  any_suits args.Left h = refl
  any_suits (args.Var i path) h = refl
  any_suits (args.Number z) h = (refl, h.1)
  any_suits (args.Text bytes) h = (refl, h.1)
  any_suits (args.Imm n) h = absurd (both_ways (is_part_class NumberOut) (ap is_part_class h) refl)
  any_suits (args.Block b) h = absurd (both_ways (is_part_class NumberOut) (ap is_part_class h) refl)
  any_suits (args.Back b) h = refl
  any_suits (args.Jump place) h = absurd (both_ways (is_part_class NumberOut) (ap is_part_class h) refl)

  set_by : (a : NbcArg) (e : Denoted) (cmp : Cmp) → is_constant a ≡ false → Suits NumberOut true a → is_number e ≡ true
      → IsSuited (text.statement line ops.Set cmp (a ∷ denoted_arg Immediate e ∷ []))
  set_by a (ANumber z) cmp plain suits number = by (is_word z)
    where
      by : (c : Bool) → IsSuited (text.statement line ops.Set cmp (a ∷ (if c then args.Imm (nat_abs z) else args.Number (cut Slong z)) ∷ []))
      by true =
          subst (λ t. SuitFrom ops.Set 0 (classes (if t || (false || false) then ops.Mov else ops.Set) 2) (a ∷ args.Imm (nat_abs z) ∷ [])) (sym plain) (suits, (refl, tt))
      by false =
          subst (λ t. SuitFrom ops.Set 0 (classes (if t || (true || false) then ops.Mov else ops.Set) 2) (a ∷ args.Number (cut Slong z) ∷ [])) (sym plain)
          (any_suits a suits, ((refl, refl), tt))
  set_by a (AVariable i path s) cmp plain suits number = absurd (both_ways false refl number)
  set_by a (AText bytes) cmp plain suits number = absurd (both_ways false refl number)
  set_by a (ABlock j sub) cmp plain suits number = absurd (both_ways false refl number)
  set_by a AType cmp plain suits number = absurd (both_ways false refl number)
  set_by a Missing cmp plain suits number = absurd (both_ways false refl number)

  set_suited : (cmp : Cmp) (ts : List Term) → IsFine src ls line ops.Set ts → IsSuited (text.statement line ops.Set cmp (args_of src ls line ops.Set ts))
  set_suited cmp [] h = absurd (both_ways false refl h.taken)
  set_suited cmp (t ∷ []) h = absurd (both_ways false refl h.taken)
  set_suited cmp (t ∷ u ∷ []) h =
      let first : 0 < 2 = omega arith in
      let second : 1 < 2 = omega arith in
      let kind = right_class src few parts names ls line ops.Set (t ∷ u ∷ []) h 0 first in
      set_by (denoted_arg NumberOut (denoted src line t)) (denoted src line u) cmp (plain_first (denoted src line t) kind)
      (part_suits NumberOut true (denoted src line t) refl kind) (right_term src few parts names ls line ops.Set (t ∷ u ∷ []) h 1 second).0
  set_suited cmp (t ∷ u ∷ v ∷ ts) h = absurd (let two = eqb-true (length (t ∷ u ∷ v ∷ ts)) 2 h.taken in omega (arith, two))

  -- a statement of a line
  pub do_suited : (op : Op) (cmp : Cmp) (ts : List Term) → IsFine src ls line op ts → is_end op ≡ false → IsSuited (text.statement line op cmp (args_of src ls line op ts))
  do_suited ops.Set cmp ts h spoken = set_suited cmp ts h
  do_suited op cmp ts h spoken = other_suited op cmp ts h refl spoken
