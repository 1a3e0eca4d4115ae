-- The words of code without far jumps have 16 bits.
use Rattle.std.proofs.Common.{◌≡◌, ℕ, ◌+◌, ◌-◌, ◌*◌, ◌<◌, ◌≤◌, Bool, true, false, ◌||◌, ◌&&◌, ◌==◌, nat_lt, All, List, [], ◌∷◌, ◌++◌, map, length, slice_index_or, sum_by, refl, sym, ap, subst, ◌∙◌, arith, eq-eqb, length-append}
use Rattle.std.specs.Prelude.{bytes_eq, if◌then◌else◌, nat_abs, slice_index}
use Rattle.std.specs.Ordering.{int_eq}
use Rattle.std.specs.List.{list_any}
use Rattle.std.proofs.lemmas.Bool.{ltb-false, ltb-true}
use Rattle.std.proofs.lemmas.List.{get_or_append_left, length-map}
use Rattle.std.proofs.lemmas.List.Elements.{All-append, All-cons, All-head, All-nil, All-tail}
use Rattle.std.proofs.lemmas.List.Sums.{sum_by-take-le, sum_by_more_le}
use Rattle.nxt_types.specs.Names.{size}
use Rattle.nxt_types.specs.Opcodes.{Arity, exactly, several, pairs, arity, opcode}
use Rattle.nxt_types.specs.Shapes.{Shape, Void, Number}
use Rattle.nxt_types.specs.Statements.{comparison_number, first_word, long_words}
use Rattle.nxt_types.specs.declared.instr.Op.{Op}
use Rattle.nxt_types.specs.declared.instr.Op.TheVariants as ops
use Rattle.nxt_types.specs.declared.kind.Cmp.{Cmp}
use Rattle.nxt_types.specs.declared.kind.Cmp.TheVariants as cmps
use Rattle.nxt_types.specs.declared.kind.Kind.TheVariants.{Slong}
use Rattle.nxt_types.proofs.Laws.Opcodes.{few_operands}
use Rattle.nxt_model.specs.Assembled.{all_shapes, arg_word, block_words, body_words, code_from, code_op, entries_before, entry_of, place_among, sixteen_bits, starts_from, statement_words, word_count}
use Rattle.nxt_model.specs.TextProgram.{Text, constant, constants, declared, returns, shapes, subroutine_number, text_shape, texts, variable_number}
use Rattle.nxt_model.specs.declared.nbc.NbcArg.{NbcArg}
use Rattle.nxt_model.specs.declared.nbc.NbcArg.TheVariants as args
use Rattle.nxt_model.specs.declared.nbc.NbcBlock.{NbcBlock}
use Rattle.nxt_model.specs.declared.nbc.NbcStatement.{NbcStatement}
use Rattle.nxt_asm_parts.specs.Codable.{IsCodable, IsCodableBlock}
use Rattle.nxt_asm_parts.specs.Sound.{AreNamed, AreNamedIn, AreShort, AreShortIn, IsNamed, IsShort}
use Rattle.nxt_asm_rules.specs.AsmRules.{far_in_blocks, far_in_body, is_far, jumps_far}

-- ---- tests

both_false : (a b : Bool) → (a || b) ≡ false → (a ≡ false) × (b ≡ false)
both_false true b e = absurd (let no : true ≡ false = e in cc)
both_false false b e = (refl, e)

-- ---- first words

low_opcode : (op : Op) → opcode op ≤ 53
low_opcode ops.Add = omega arith
low_opcode _ = omega arith

low_comparison : (cmp : Cmp) → comparison_number cmp ≤ 5
low_comparison cmps.Lt = omega arith
low_comparison _ = omega arith

first_fits : (bytes : ℕ) (op : Op) (cmp : Cmp) → bytes ≤ 14 → first_word bytes op cmp < 65536
first_fits bytes op cmp few = by bytes (comparison_number cmp) (opcode op) few (low_comparison cmp) (low_opcode op)
  where
    by : (b c k : ℕ) → b ≤ 14 → c ≤ 5 → k ≤ 53 → b * 4096 + c * 256 + k < 65536
    by b c k e f g = omega (arith, e, f, g)

abbrev pub AreWords : List ℕ → Type 0
AreWords ws = All (λ w. w < 65536) ws

size_fits : (n : ℕ) → n ≤ 32765 → 4 + 2 * n < 65536
size_fits n few = omega (arith, few)

sized_fit : (op : Op) (ws : List ℕ) → length ws ≤ 32765 → AreWords ws → AreWords (first_word 14 op cmps.Lt ∷ (4 + 2 * length ws) ∷ ws)
sized_fit op ws few all =
    All-cons (λ w. w < 65536) (first_word 14 op cmps.Lt) ((4 + 2 * length ws) ∷ ws) (first_fits 14 op cmps.Lt (omega arith))
    (All-cons (λ w. w < 65536) (4 + 2 * length ws) ws (size_fits (length ws) few) all)

-- a long form's words, where its operands' have 16 bits
long_fits : (a : Arity) (op : Op) (cmp : Cmp) (ws : List ℕ) → ((n : ℕ) → a ≡ exactly n → n ≤ 5) → length ws ≤ 32765 → AreWords ws → AreWords (long_words a op cmp ws)
long_fits (exactly n) op cmp ws five few all =
    let most : 2 + 2 * n ≤ 14 = by n (five n refl) in
    All-cons (λ w. w < 65536) (first_word (2 + 2 * n) op cmp) ws (first_fits (2 + 2 * n) op cmp most) all
  where
    by : (n : ℕ) → n ≤ 5 → 2 + 2 * n ≤ 14
    by n e = omega (arith, e)
long_fits several op cmp ws five few all = sized_fit op ws few all
long_fits pairs op cmp ws five few all = sized_fit op ws few all

-- ---- operands

-- an entry past the others is at most behind them all
whole_entry : (ss : List Shape) (i most : ℕ) → sum_by size ss ≤ most → entry_of ss i [] ≤ most
whole_entry ss i most few = by (variable_number ss i) (sum_by size ss) (sum_by-take-le size ss i) few
  where
    by : (a b : ℕ) → a ≤ b → b ≤ most → a + 0 ≤ most
    by a b e f = omega (arith, e, f)

declared_part : (p : Text) (i : ℕ) → i < length (declared p) → slice_index_or (all_shapes p) i Void ≡ slice_index_or (declared p) i Void
declared_part p i under =
    let numbers : List Shape = map (λ z. Number Slong) (constants p) in
    let last : List Shape = map (λ t. text_shape) (texts p) in
    let one = declared p in
    let two = one ++ returns p in
    let three = two ++ numbers in
    let second : i < length two = longer one (returns p) under in
    let third : i < length three = longer two numbers second in
    get_or_append_left three last Void i third ∙ get_or_append_left two numbers Void i second ∙ get_or_append_left one (returns p) Void i under
  where
    longer : (xs ys : List Shape) → i < length xs → i < length (xs ++ ys)
    longer xs ys under = let both = length-append xs ys in omega (arith, under, both)

-- a part of a variable has an entry of the table
part_entry : (p : Text) (i : ℕ) (path : List ℕ) → i < length (declared p)
    → entries_before path (slice_index_or (declared p) i Void) < size (slice_index_or (declared p) i Void) → entry_of (all_shapes p) i path < sum_by size (all_shapes p)
part_entry p i path under inside =
    let ss : List Shape = all_shapes p in
    let same = declared_part p i under in
    let within : entries_before path (slice_index_or ss i Void) < size (slice_index_or ss i Void) =
    subst (λ s. entries_before path s < size s) (sym same) inside in
    let long : i < length ss = longest p i under in
    by (variable_number ss i) (entries_before path (slice_index_or ss i Void)) (size (slice_index_or ss i Void)) (sum_by size ss) within (sum_by_more_le size ss i Void long)
  where
    by : (a b c d : ℕ) → b < c → a + c ≤ d → a + b < d
    by a b c d e f = omega (arith, e, f)

    longest : (p : Text) (i : ℕ) → i < length (declared p) → i < length (all_shapes p)
    longest p i under =
        let numbers : List Shape = map (λ z. Number Slong) (constants p) in
        let first = length-append (declared p ++ returns p ++ numbers) (map (λ t. text_shape) (texts p)) in
        let second = length-append (declared p ++ returns p) numbers in
        let third = length-append (declared p) (returns p) in
        omega (arith, first, second, third, under)

-- an offset that is not far has 16 bits
near_jump : (from to : ℕ) → is_far from to ≡ false → sixteen_bits to from < 65536
near_jump from to near =
    let each = both_false (nat_lt (to + 32768) from) (nat_lt (from + 32767) to) near in
    let down = ltb-false (to + 32768) from each.0 in
    let up = ltb-false (from + 32767) to each.1 in
    by (nat_lt to from) refl down up
  where
    by : (b : Bool) → nat_lt to from ≡ b → from ≤ to + 32768 → to ≤ from + 32767 → (if b then 65536 - (from - to) else to - from) < 65536
    by true e down up = let under = ltb-true to from e in omega (arith, down, up, under)
    by false e down up = omega (arith, down, up)

module _ (p : Text) (few : sum_by size (all_shapes p) ≤ 49151) where
  entry_fits : (i : ℕ) → entry_of (all_shapes p) i [] < 65536
  entry_fits i = by (entry_of (all_shapes p) i []) (whole_entry (all_shapes p) i 49151 few)
    where
      by : (n : ℕ) → n ≤ 49151 → n < 65536
      by n e = omega (arith, e)

  arg_fits : (at : List ℕ) (here : ℕ) (a : NbcArg) → jumps_far at here a ≡ false → IsNamed p a → IsShort a → arg_word p at here a < 65536
  arg_fits at here args.Left near named short = omega arith
  arg_fits at here (args.Var i path) near named short =
      by (entry_of (all_shapes p) i (map nat_abs path)) (sum_by size (all_shapes p)) (part_entry p i (map nat_abs path) named.0 named.1) few
    where
      by : (n m : ℕ) → n < m → m ≤ 49151 → n < 65536
      by n m e f = omega (arith, e, f)
  arg_fits at here (args.Number z) near named short = entry_fits (length (shapes p) + place_among int_eq (constant z) (constants p))
  arg_fits at here (args.Text bytes) near named short = entry_fits (length (shapes p) + length (constants p) + place_among bytes_eq bytes (texts p))
  arg_fits at here (args.Imm n) near named short = short
  arg_fits at here (args.Block b) near named short = omega (arith, short)
  arg_fits at here (args.Back b) near named short = entry_fits (length (declared p) + subroutine_number p b)
  arg_fits at here (args.Jump place) near named short = near_jump here (slice_index at place) near

  args_fit : (at : List ℕ) (here : ℕ) (xs : List NbcArg) → list_any (jumps_far at here) xs ≡ false → All (IsNamed p) xs → All IsShort xs
      → AreWords (map (arg_word p at here) xs)
  args_fit at here [] near named short = All-nil (λ w. w < 65536)
  args_fit at here (x ∷ xs) near named short =
      let each = both_false (jumps_far at here x) (list_any (jumps_far at here) xs) near in
      All-cons (λ w. w < 65536) (arg_word p at here x) (map (arg_word p at here) xs)
      (arg_fits at here x each.0 (All-head (IsNamed p) x xs named) (All-head IsShort x xs short))
      (args_fit at here xs each.1 (All-tail (IsNamed p) x xs named) (All-tail IsShort x xs short))

  -- ---- statements

  statement_fits : (at : List ℕ) (here : ℕ) (s : NbcStatement) → list_any (jumps_far at here) s.args ≡ false → AreNamed p s → AreShort s → IsCodable s
      → AreWords (statement_words p at here s)
  statement_fits at here s near named short codable =
      let op : Op = code_op s.op s.args in
      let ws : List ℕ = map (arg_word p at here) s.args in
      let long = length-map s.args (arg_word p at here) in
      long_fits (arity op) op s.cmp ws (few_operands op) (by (length ws) (length s.args) long codable.few) (args_fit at here s.args near named short)
    where
      by : (n m : ℕ) → n ≡ m → m ≤ 32765 → n ≤ 32765
      by n m e f = omega (arith, e, f)

  body_fits : (at : List ℕ) (here : ℕ) (ss : List NbcStatement) → ((line : ℕ) → far_in_body line at here ss ≡ false) → All (AreNamed p) ss → All AreShort ss
      → All IsCodable ss → AreWords (body_words p at here ss)
  body_fits at here [] near named short codable = All-nil (λ w. w < 65536)
  body_fits at here (s ∷ ss) near named short codable =
      let far : Bool = list_any (jumps_far at here) s.args in
      let rest : ℕ → Bool = λ line. far_in_body line at (here + word_count s) ss in
      let own = (both_false ((s.line == s.line) && far) (rest s.line) (near s.line)).0 in
      let this : far ≡ false = sym (ap (λ t. t && far) (eq-eqb s.line s.line refl)) ∙ own in
      All-append (λ w. w < 65536) (statement_words p at here s) (body_words p at (here + word_count s) ss)
      (statement_fits at here s this (All-head (AreNamed p) s ss named) (All-head AreShort s ss short) (All-head IsCodable s ss codable))
      (body_fits at (here + word_count s) ss (λ line. (both_false ((s.line == line) && far) (rest line) (near line)).1)
      (All-tail (AreNamed p) s ss named) (All-tail AreShort s ss short) (All-tail IsCodable s ss codable))

  -- ---- blocks

  pub code_fits : (here : ℕ) (bs : List NbcBlock) → ((line : ℕ) → far_in_blocks line here bs ≡ false) → All (AreNamedIn p) bs → All AreShortIn bs
      → All IsCodableBlock bs → AreWords (code_from p here bs)
  code_fits here [] near named short codable = All-nil (λ w. w < 65536)
  code_fits here (b ∷ bs) near named short codable =
      let at : List ℕ = starts_from here b.body in
      let first : ℕ → Bool = λ line. far_in_body line at here b.body in
      let rest : ℕ → Bool = λ line. far_in_blocks line (here + block_words b) bs in
      All-append (λ w. w < 65536) (body_words p at here b.body) (code_from p (here + block_words b) bs)
      (body_fits at here b.body (λ line. (both_false (first line) (rest line) (near line)).0)
      (All-head (AreNamedIn p) b bs named) (All-head AreShortIn b bs short) (All-head IsCodableBlock b bs codable))
      (code_fits (here + block_words b) bs (λ line. (both_false (first line) (rest line) (near line)).1)
      (All-tail (AreNamedIn p) b bs named) (All-tail AreShortIn b bs short) (All-tail IsCodableBlock b bs codable))
