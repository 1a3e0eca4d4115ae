-- Names that are read one after another.
use Rattle.std.proofs.Common.{◌≡◌, ℕ, suc, ◌+◌, ◌-◌, ◌^◌, min, Bool, true, false, ◌||◌, List, [], ◌∷◌, ◌++◌, length, sum_by, position, bytes_eq, nat_lt, cond, Option, Some, None, refl, sym, ap, ◌∙◌, arith, length-append, subst, inl, inr}
use Rattle.std.specs.Prelude.{is_some}
use Rattle.std.specs.List.{list_any, position_or_len}
use Rattle.std.proofs.lemmas.Bool.{cases_lt, lt-ltb, le-ltb}
use Rattle.std.proofs.lemmas.List.Sums.{sum_by-cons}
use Rattle.nxt_model.specs.Nbc.NbcRules.{Declared}
use Rattle.nxt_nbc_lines.specs.Firsts.{lesser}
use Rattle.nxt_nbc.specs.Spaces.{is_among, again, least_again, least_in_spaces}
use Rattle.nxt_nbc.proofs.LesserLines.{lesser_none, lesser_assoc}

-- ---- one name

lt_suc : (n m : ℕ) → nat_lt (1 + n) (suc m) ≡ nat_lt n m
lt_suc n m =
    elim (cases_lt n m) as (λ _. nat_lt (1 + n) (suc m) ≡ nat_lt n m) [
      | inl lt ↦ lt-ltb (1 + n) (suc m) (omega (arith, lt)) ∙ sym (lt-ltb n m lt)
      | inr ge ↦ le-ltb (1 + n) (suc m) (omega (arith, ge)) ∙ sym (le-ltb n m ge)
    ]

some_at : (b : Bool) (n : ℕ) → is_some (cond b (Some n) None) ≡ b
some_at true n = refl
some_at false n = refl

module _ {X : Type 0} (p : X → Bool) where
  within : (xs : List X) → nat_lt (position_or_len p xs) (length xs) ≡ list_any p xs
  within [] = refl
  within (x ∷ xs) = by (p x) refl (within xs)
    where
      by : (b : Bool) → p x ≡ b → nat_lt (position_or_len p xs) (length xs) ≡ list_any p xs
          → nat_lt (position_or_len p (x ∷ xs)) (suc (length xs)) ≡ (p x || list_any p xs)
      by true e more = rw e (lt-ltb 0 (suc (length xs)) (omega arith))
      by false e more = rw e (lt_suc (position_or_len p xs) (length xs) ∙ more)

  -- there is a position where an item passes
  pub some_position : (xs : List X) → is_some (position p xs) ≡ list_any p xs
  some_position xs = some_at (nat_lt (position_or_len p xs) (length xs)) (position_or_len p xs) ∙ within xs

-- a name has a position where it stands among the names
pub among_position : (names : List (List ℕ)) (name : List ℕ) → is_some (position (λ n. bytes_eq n name) names) ≡ is_among names name
among_position names name = some_position (λ n. bytes_eq n name) names

-- a line that declares a name again is taken for the lesser of the two
pub when_again : (found now : Option ℕ) (twice : Bool) (line : ℕ) → now ≡ lesser found (Some line) → twice ≡ true
    → (later : Option ℕ) → lesser now later ≡ lesser found (again twice line later)
when_again found now twice line e is later =
    ap (λ o. lesser o later) e ∙ lesser_assoc found (Some line) later ∙ ap (λ b. lesser found (again b line later)) (sym is)

pub when_new : (found now : Option ℕ) (twice : Bool) (line : ℕ) → now ≡ found → twice ≡ false
    → (later : Option ℕ) → lesser now later ≡ lesser found (again twice line later)
when_new found now twice line e is later = ap (λ o. lesser o later) e ∙ ap (λ b. lesser found (again b line later)) (sym is)

-- ---- one space

-- names of a space were read, the least line that declares one of them again is told, and these are left
pub record Declares (taken : ℕ → List ℕ → Bool) (names : List (List ℕ)) (twice : Option ℕ) (left whole : List Declared) : Type 0 where
  pub line : lesser twice (least_again taken names left) ≡ least_again taken [] whole
  pub count : length names + length left ≡ length whole

pub none_read : {names : List (List ℕ)} {twice : Option ℕ} (taken : ℕ → List ℕ → Bool) (whole : List Declared) → names ≡ [] → twice ≡ None
    → Declares taken names twice whole whole
none_read {names = names} taken whole none nowhere = record {
  line = ap (λ o. lesser o (least_again taken names whole)) nowhere ∙ ap (λ ns. least_again taken ns whole) none;
  count = omega (arith, ap (λ ns. length ns) none);
}

-- one more
pub name_read : {taken : ℕ → List ℕ → Bool} {names more : List (List ℕ)} {twice now : Option ℕ} {left whole : List Declared}
    (line : ℕ) (name : List ℕ) (rest : List Declared) → Declares taken names twice left whole → left ≡ (line, name) ∷ rest → more ≡ names ++ name ∷ []
    → ((later : Option ℕ) → lesser now later ≡ lesser twice (again (is_among names name || taken line name) line later))
    → Declares taken more now rest whole
name_read {taken = taken} {names = names} {more = more} {twice = twice} {now = now} line name rest d is one e = record {
  line =
      ap (λ ns. lesser now (least_again taken ns rest)) one
      ∙ e (least_again taken (names ++ name ∷ []) rest)
      ∙ ap (λ ds. lesser twice (least_again taken names ds)) (sym is)
      ∙ d.line;
  count = omega (arith, d.count, ap (λ ds. length ds) is, ap (λ ns. length ns) one, length-append names (name ∷ []));
}

-- what is left, in other words
pub as_left : {taken : ℕ → List ℕ → Bool} {names : List (List ℕ)} {twice : Option ℕ} {left rest whole : List Declared}
    → Declares taken names twice left whole → left ≡ rest → Declares taken names twice rest whole
as_left {taken = taken} {names = names} {twice = twice} {whole = whole} d is = subst (λ ds. Declares taken names twice ds whole) is d

-- all of them
pub all_read : {taken : ℕ → List ℕ → Bool} {names : List (List ℕ)} {twice : Option ℕ} {left whole : List Declared}
    → Declares taken names twice left whole → left ≡ [] → (twice ≡ least_again taken [] whole) × (length names ≡ length whole)
all_read {taken = taken} {names = names} {twice = twice} d none = (
  sym (lesser_none twice) ∙ ap (λ ds. lesser twice (least_again taken names ds)) (sym none) ∙ d.line,
  omega (arith, d.count, ap (λ ds. length ds) none),
)

-- ---- several spaces

-- spaces were read with so many names, and these are left
pub record Tell (taken : ℕ → List ℕ → Bool) (twice : Option ℕ) (count : ℕ) (left whole : List (List Declared)) : Type 0 where
  pub names : ℕ
  pub held : count ≡ min names (2 ^ 64 - 1)
  pub line : lesser twice (least_in_spaces taken left) ≡ least_in_spaces taken whole
  pub sum : names + sum_by (λ ds. length ds) left ≡ sum_by (λ ds. length ds) whole

pub no_space_read : {twice : Option ℕ} {count : ℕ} (taken : ℕ → List ℕ → Bool) (whole : List (List Declared)) → twice ≡ None → count ≡ min 0 (2 ^ 64 - 1)
    → Tell taken twice count whole whole
no_space_read taken whole nowhere none = record {
  names = 0;
  held = none;
  line = ap (λ o. lesser o (least_in_spaces taken whole)) nowhere;
  sum = omega arith;
}

-- one more
pub space_read : {taken : ℕ → List ℕ → Bool} {twice now : Option ℕ} {count more : ℕ} {left whole : List (List Declared)}
    (ds : List Declared) (rest : List (List Declared)) (t : Tell taken twice count left whole) → left ≡ ds ∷ rest
    → now ≡ lesser twice (least_again taken [] ds) → more ≡ min (t.names + length ds) (2 ^ 64 - 1) → Tell taken now more rest whole
space_read {taken = taken} {twice = twice} ds rest t is e held = record {
  names = t.names + length ds;
  held = held;
  line =
      ap (λ o. lesser o (least_in_spaces taken rest)) e
      ∙ lesser_assoc twice (least_again taken [] ds) (least_in_spaces taken rest)
      ∙ ap (λ dss. lesser twice (least_in_spaces taken dss)) (sym is)
      ∙ t.line;
  sum = omega (arith, t.sum, ap (sum_by (λ es. length es)) is, sum_by-cons (λ (es : List Declared). length es) ds rest);
}

pub as_spaces_left : {taken : ℕ → List ℕ → Bool} {twice : Option ℕ} {count : ℕ} {left rest whole : List (List Declared)}
    → Tell taken twice count left whole → left ≡ rest → Tell taken twice count rest whole
as_spaces_left {taken = taken} {twice = twice} {count = count} {whole = whole} t is = subst (λ dss. Tell taken twice count dss whole) is t

-- all of them
pub all_spaces_read : {taken : ℕ → List ℕ → Bool} {twice : Option ℕ} {count : ℕ} {left whole : List (List Declared)}
    → Tell taken twice count left whole → left ≡ [] → (twice ≡ least_in_spaces taken whole) × (count ≡ min (sum_by (λ ds. length ds) whole) (2 ^ 64 - 1))
all_spaces_read {taken = taken} {twice = twice} t none = (
  sym (lesser_none twice) ∙ ap (λ dss. lesser twice (least_in_spaces taken dss)) (sym none) ∙ t.line,
  t.held ∙ ap (λ n. min n (2 ^ 64 - 1)) (omega (arith, t.sum, ap (sum_by (λ ds. length ds)) none)),
)
