-- The landings of jumps.
use Rattle.std.proofs.Common.{◌≡◌, ℕ, zero, suc, ◌+◌, ◌-◌, ◌<◌, ◌≤◌, Bool, true, false, List, [], ◌∷◌, length, nat_lt, pos, refl, ap, ◌∙◌, arith}
use mir.Val.{sel}
use Rattle.std.specs.Int.{cast_signed, w16}
use Rattle.std.specs.Prelude.{if◌then◌else◌, negsuc, ◌+ℤ◌, slice_index}
use Rattle.std.specs.List.{list_any}
use Rattle.std.proofs.lemmas.Bool.{le-ltb, ltb-false, ltb-true, or_left, or_parts, or_right}
use Rattle.std.proofs.lemmas.Int.{ints}
use Rattle.nxt_types.specs.Statements.{landing, offset_of}
use Rattle.nxt_model.specs.declared.nbc.NbcStatement.{NbcStatement}
use Rattle.nxt_model.specs.Assembled.{sixteen_bits, starts_from, word_count}
use Rattle.nxt_model.specs.TextProgram.{Text}
use Rattle.nxt_asm_rules.specs.AsmRules.{is_far}
use Rattle.nxt_asm_laws_code.specs.Placed.{placed_body}

-- a word whose highest bit is set is negative
high_word : (w : ℕ) → 32768 ≤ w → cast_signed w16 w ≡ negsuc (65536 - suc w)
high_word w over = ap (λ b. sel b (pos w) (negsuc (65536 - suc w))) (le-ltb w 32768 over)

-- back to a word, and ahead
back : (from to w : ℕ) → to < from → from ≤ to + 32768 → w + from ≡ 65536 + to → pos from +ℤ cast_signed w16 w ≡ pos to
back from to w under down e =
    let over : 32768 ≤ w = omega (arith, under, down, e) in
    let less : pos from +ℤ negsuc (65536 - suc w) ≡ pos to = omega (arith, ints, under, down, e) in
    ap (λ z. pos from +ℤ z) (high_word w over) ∙ less

ahead : (from to w : ℕ) → to ≤ from + 32767 → w + from ≡ to → pos from +ℤ cast_signed w16 w ≡ pos to
ahead from to w up e = omega (arith, ints)

-- a jump that isn't far leads to its place
pub landing-near : (from to : ℕ) → is_far from to ≡ false → landing from (offset_of (sixteen_bits to from)) ≡ pos to
landing-near from to near =
    let each = or_parts (nat_lt (to + 32768) from) (nat_lt (from + 32767) to) near in
    by (nat_lt to from) refl (ltb-false (to + 32768) from each.0) (ltb-false (from + 32767) to each.1)
  where
    by : (b : Bool) → nat_lt to from ≡ b → from ≤ to + 32768 → to ≤ from + 32767 → pos from +ℤ cast_signed w16 (if b then 65536 - (from - to) else to - from) ≡ pos to
    by true e down up = let under = ltb-true to from e in back from to (65536 - (from - to)) under down (omega (arith, under, down))
    by false e down up = let over = ltb-false to from e in ahead from to (to - from) up (omega (arith, over))

-- a statement of a block begins at each of its starts but the last
pub start_begins : (p : Text) (at : List ℕ) (test : ℕ → Bool) (ss : List NbcStatement) (here place : ℕ) → place < length ss
    → test (slice_index (starts_from here ss) place) ≡ true → list_any (λ t. test t.0) (placed_body p at here ss) ≡ true
start_begins p at test [] here place lt e = absurd (omega (arith, lt))
start_begins p at test (s ∷ ss) here zero lt e = or_left (test here) (list_any (λ t. test t.0) (placed_body p at (here + word_count s) ss)) e
start_begins p at test (s ∷ ss) here (suc place) lt e =
    or_right (test here) (list_any (λ t. test t.0) (placed_body p at (here + word_count s) ss)) (start_begins p at test ss (here + word_count s) place (omega (arith, lt)) e)
