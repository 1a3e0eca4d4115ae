-- Where a name stands among structs.
use Rattle.std.proofs.Common.{◌≡◌, ℕ, suc, ◌≤◌, Bool, true, false, ◌&&◌, cond, nat_lt, bytes_eq, List, [], ◌∷◌, position, slice_index_or, Option, Some, None, option_map, refl, sym, ap, ◌∙◌, arith}
use Rattle.std.proofs.lemmas.Bool.Decides.{nat_tests}
use Rattle.nxt_model.specs.Nbc.Types.{Struct, is_before}
use Rattle.nxt_nbc_names.specs.Structs.{Rises}
use Rattle.nxt_nbc_names.proofs.Positions.{position_front}

abbrev pub is_named : List ℕ → Struct → Bool
is_named name s = bytes_eq s.name name

-- of structs that rise none stands before a line that the first isn't before
none_before : (n line : ℕ) (name : List ℕ) (ds : List Struct) → Rises n ds → line ≤ n → position (is_before line name) ds ≡ None
none_before n line name [] rises over = refl
none_before n line name (s ∷ more) rises over =
    let first = rises.0 in
    let late : nat_lt s.line line ≡ false = grind (arith, nat_tests) in
    position_front (is_before line name) s more
    ∙ ap (λ b. cond (b && bytes_eq s.name name) (Some 0) (option_map suc (position (is_before line name) more))) late
    ∙ ap (option_map suc) (none_before s.line line name more rises.1 (omega arith))

-- nor does one of a name that none has
pub none_named : (line : ℕ) (name : List ℕ) (ds : List Struct) → position (is_named name) ds ≡ None → position (is_before line name) ds ≡ None
none_named line name [] gone = refl
none_named line name (s ∷ more) gone =
    position_front (is_before line name) s more
    ∙ by (nat_lt s.line line) (bytes_eq s.name name) (position (is_named name) more) (sym (position_front (is_named name) s more) ∙ gone) (none_named line name more)
  where
    by : (b c : Bool) (o : Option ℕ) → cond c (Some 0) (option_map suc o) ≡ None → (o ≡ None → position (is_before line name) more ≡ None)
        → cond (b && c) (Some 0) (option_map suc (position (is_before line name) more)) ≡ None
    by b true o e rest = let f : ⊥ = cc in absurd f
    by b false (Some i) e rest = let f : ⊥ = cc in absurd f
    by true false None e rest = ap (option_map suc) (rest refl)
    by false false None e rest = ap (option_map suc) (rest refl)

-- a position, where the struct there is declared before a line
abbrev pub kept_before : ℕ → List Struct → Struct → Option ℕ → Option ℕ
kept_before line ds d None = None
kept_before line ds d (Some i) = cond (nat_lt (slice_index_or ds i d).line line) (Some i) None

pub place_before : (n line : ℕ) (name : List ℕ) (ds : List Struct) (d : Struct) → Rises n ds
    → position (is_before line name) ds ≡ kept_before line ds d (position (is_named name) ds)
place_before n line name [] d rises = refl
place_before n line name (s ∷ more) d rises =
    position_front (is_before line name) s more
    ∙ by (nat_lt s.line line) (bytes_eq s.name name) refl (place_before s.line line name more d rises.1)
    ∙ sym (ap (kept_before line (s ∷ more) d) (position_front (is_named name) s more))
  where
    later : (o : Option ℕ) → option_map suc (kept_before line more d o) ≡ kept_before line (s ∷ more) d (option_map suc o)
    later None = refl
    later (Some i) = one (nat_lt (slice_index_or more i d).line line)
      where
        one : (b : Bool) → option_map suc (cond b (Some i) None) ≡ cond b (Some (suc i)) None
        one true = refl
        one false = refl

    by : (b c : Bool) → nat_lt s.line line ≡ b → position (is_before line name) more ≡ kept_before line more d (position (is_named name) more)
        → cond (nat_lt s.line line && c) (Some 0) (option_map suc (position (is_before line name) more)) ≡ kept_before line (s ∷ more) d (cond c (Some 0) (option_map suc (position (is_named name) more)))
    by true true e rest = rw e refl
    by false true e rest =
        let over : line ≤ s.line = grind (arith, nat_tests) in
        rw e (ap (option_map suc) (none_before s.line line name more rises.1 over))
    by b false e rest =
        ap (λ a. cond a (Some 0) (option_map suc (position (is_before line name) more))) (no_more (nat_lt s.line line))
        ∙ ap (option_map suc) rest
        ∙ later (position (is_named name) more)
      where
        no_more : (a : Bool) → (a && false) ≡ false
        no_more true = refl
        no_more false = refl
