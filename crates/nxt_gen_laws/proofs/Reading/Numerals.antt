-- Numerals and the names of lists are tokens, and their words.
use Rattle.std.proofs.Common.{◌≡◌, ℕ, suc, ◌+◌, ◌<◌, ◌≤◌, ◌==◌, Bool, true, false, ◌&&◌, cond, List, [], ◌∷◌, ◌++◌, length, decimal, Some, refl, ap, ◌∙◌, arith}
use Rattle.std.specs.Prelude.{if◌then◌else◌, slice_index, pos, drop, nat_lt}
use Rattle.std.specs.List.{prefix_len}
use Rattle.std.specs.Str.Parse.{AllDigits, digits_value}
use Rattle.std.proofs.lemmas.Bool.Decides.{nat_tests}
use Rattle.std.proofs.lemmas.Fmt.{decimal_is_IsNumeral}
use Rattle.std.proofs.lemmas.List.Sums.{sum_by-cons}
use Rattle.std.proofs.lemmas.Str.Parse.{digit_from_value}
use Rattle.nxt_model.specs.Nbc.Tokens.{Number, a_token, begins_name, is_blank, is_digit, is_hex_digit, is_name_byte, line_feeds, numeral_len, piece_at, word_of}
use Rattle.nxt_gen_laws.specs.Marks.{IsToken}

-- what stands behind an operand: a comma or a line feed
pub record Stops (c : ℕ) : Type 0 where
  pub name : is_name_byte c ≡ false
  pub digit : is_digit c ≡ false
  pub letter : (c == 120) ≡ false

pub comma_stops : Stops 44
comma_stops = record { name = refl; digit = refl; letter = refl }

pub feed_stops : Stops 10
feed_stops = record { name = refl; digit = refl; letter = refl }

if_true : {A : Type 0} (b : Bool) (x y : A) → b ≡ true → (if b then x else y) ≡ x
if_true true x y e = refl
if_true false x y e = absurd (let f : false ≡ true = e in let g : ⊥ = cc in g)

if_false : {A : Type 0} (b : Bool) (x y : A) → b ≡ false → (if b then x else y) ≡ y
if_false false x y e = refl
if_false true x y e = absurd (let f : true ≡ false = e in let g : ⊥ = cc in g)

-- ---- digits

digit_is : (c : ℕ) → 48 ≤ c → c ≤ 57 → is_digit c ≡ true
digit_is c low high = grind (arith, nat_tests)

name_byte_is : (c : ℕ) → 48 ≤ c → c ≤ 57 → is_name_byte c ≡ true
name_byte_is c low high = grind (arith, nat_tests)

all_pass : (test : ℕ → Bool) → ((c : ℕ) → 48 ≤ c → c ≤ 57 → test c ≡ true) → (ds : List ℕ) → AllDigits 10 ds → (c : ℕ) (rest : List ℕ) → test c ≡ false
    → prefix_len test (ds ++ (c ∷ rest)) ≡ length ds
all_pass test pass [] digits c rest stop = ap (λ b. cond b (1 + prefix_len test rest) 0) stop
all_pass test pass (d ∷ ds) digits c rest stop =
    let range = digit_from_value d digits.0 in
    ap (λ b. cond b (1 + prefix_len test (ds ++ (c ∷ rest))) 0) (pass d range.0 range.1)
    ∙ ap (λ n. 1 + n) (all_pass test pass ds digits.1 c rest stop)
    ∙ omega arith

no_feeds : (ds : List ℕ) → AllDigits 10 ds → line_feeds ds ≡ 0
no_feeds [] digits = refl
no_feeds (d ∷ ds) digits =
    let range = digit_from_value d digits.0 in
    let other : (d == 10) ≡ false = grind (arith, nat_tests) in
    sum_by-cons (λ b. cond (b == 10) 1 0) d ds ∙ ap (λ b. cond b 1 0 + line_feeds ds) other ∙ ap (λ n. 0 + n) (no_feeds ds digits.1)

-- ---- numerals

never_both : (a b : Bool) → (a && false && b) ≡ false
never_both true b = refl
never_both false b = refl

-- no x stands behind the first digit
no_letter : (q : List ℕ) → AllDigits 10 q → (c : ℕ) (rest : List ℕ) → (c == 120) ≡ false → (slice_index (q ++ (c ∷ rest)) 0 == 120) ≡ false
no_letter [] digits c rest other = other
no_letter (d ∷ q) digits c rest other = let range = digit_from_value d digits.0 in grind (arith, nat_tests)

module _ (d : ℕ) (q : List ℕ) (digits : AllDigits 10 (d ∷ q)) where
  low : 48 ≤ d
  low = (digit_from_value d digits.0).0

  high : d ≤ 57
  high = (digit_from_value d digits.0).1

  not_blank : is_blank d ≡ false
  not_blank = let l = low in let h = high in grind (arith, nat_tests)

  no_name : begins_name d ≡ false
  no_name = let l = low in let h = high in grind (arith, nat_tests)

  whole_numeral : (c : ℕ) (rest : List ℕ) → Stops c → numeral_len (d ∷ (q ++ (c ∷ rest))) ≡ length (d ∷ q)
  whole_numeral c rest stops =
      let hex : ℕ = prefix_len is_hex_digit (drop 1 (q ++ (c ∷ rest))) in
      ap (λ b. if (d == 48) && b && nat_lt 0 hex then 2 + hex else prefix_len is_digit (d ∷ (q ++ (c ∷ rest)))) (no_letter q digits.1 c rest stops.letter)
      ∙ ap (λ b. if b then 2 + hex else prefix_len is_digit (d ∷ (q ++ (c ∷ rest)))) (never_both (d == 48) (nat_lt 0 hex))
      ∙ all_pass is_digit digit_is (d ∷ q) digits c rest stops.digit

  numeral_piece : (c : ℕ) (rest : List ℕ) → Stops c → piece_at (d ∷ (q ++ (c ∷ rest))) ≡ Some (true, length (d ∷ q))
  numeral_piece c rest stops =
      if_false (is_blank d) _ _ not_blank
      ∙ if_false (begins_name d) _ _ no_name
      ∙ if_true (is_digit d) _ _ (digit_is d low high)
      ∙ ap a_token (whole_numeral c rest stops)

  no_hex : (slice_index q 0 == 120) ≡ false
  no_hex = by q digits.1
    where
      by : (r : List ℕ) → AllDigits 10 r → (slice_index r 0 == 120) ≡ false
      by [] ds = refl
      by (e ∷ r) ds = let range = digit_from_value e ds.0 in grind (arith, nat_tests)

  numeral_word : word_of (d ∷ q) ≡ Number (pos (digits_value 10 (d ∷ q)))
  numeral_word = rw (no_name, digit_is d low high, no_hex)

module _ (v : ℕ) (small : v < 2048) where
  all_digits : AllDigits 10 (decimal v)
  all_digits = (decimal_is_IsNumeral v (omega (arith, small))).0.1

  some_digits : (length (decimal v) == 0) ≡ false
  some_digits = let some = (decimal_is_IsNumeral v (omega (arith, small))).0.0 in grind (arith, nat_tests)

  same_value : digits_value 10 (decimal v) ≡ v
  same_value = (decimal_is_IsNumeral v (omega (arith, small))).1

  -- a numeral is a token
  pub decimal_token : (c : ℕ) (rest : List ℕ) → Stops c → IsToken (decimal v) (c ∷ rest)
  decimal_token c rest stops = (some_digits, by (decimal v) all_digits some_digits, no_feeds (decimal v) all_digits)
    where
      by : (ds : List ℕ) → AllDigits 10 ds → (length ds == 0) ≡ false → piece_at (ds ++ (c ∷ rest)) ≡ Some (true, length ds)
      by [] digits some = absurd (let f : true ≡ false = some in let g : ⊥ = cc in g)
      by (d ∷ q) digits some = numeral_piece d q digits c rest stops

  -- its word is the number
  pub decimal_word : word_of (decimal v) ≡ Number (pos v)
  decimal_word = by (decimal v) all_digits some_digits ∙ ap (λ n. Number (pos n)) same_value
    where
      by : (ds : List ℕ) → AllDigits 10 ds → (length ds == 0) ≡ false → word_of ds ≡ Number (pos (digits_value 10 ds))
      by [] digits some = absurd (let f : true ≡ false = some in let g : ⊥ = cc in g)
      by (d ∷ q) digits some = numeral_word d q digits

  -- the name of a list is a token
  pub list_token : (c : ℕ) (rest : List ℕ) → Stops c → IsToken (97 ∷ decimal v) (c ∷ rest)
  list_token c rest stops =
      let long : 1 + length (decimal v) ≡ length (97 ∷ decimal v) = omega arith in (
        longer (length (decimal v)),
        ap (λ n. a_token (1 + n)) (all_pass is_name_byte name_byte_is (decimal v) all_digits c rest stops.name) ∙ ap a_token long,
        sum_by-cons (λ b. cond (b == 10) 1 0) 97 (decimal v) ∙ ap (λ n. 0 + n) (no_feeds (decimal v) all_digits),
      )
    where
      longer : (n : ℕ) → (suc n == 0) ≡ false
      longer n = grind (arith, nat_tests)
