-- The name of mutexes is that of a mutex alone.
use Rattle.std.proofs.Common.{◌≡◌, ℕ, Bool, true, false, not, ◌&&◌, List, [], ◌∷◌, find, cond, codes, bytes_eq, Option, Some, option_map, refl, sym, ap, ◌∙◌}
use Rattle.std.specs.List.{list_all}
use Rattle.std.proofs.lemmas.Bool.{and_parts, and_from}
use Rattle.std.proofs.lemmas.Slice.Eq.{bytes_eq-Decides}
use Rattle.nxt_model.specs.declared.nbc.NbcBase.{NbcBase}
use Rattle.nxt_model.specs.Nbc.Types.{plain_type, plain_types}
use Rattle.nxt_model.specs.Nbc.NbcRules.{is_mutex_base}

module _ (named : List ℕ × NbcBase → Bool) where
  abbrev is_none : List ℕ × NbcBase → Bool
  is_none t = not (is_mutex_base (Some t.1) && named t)

  by_first : (t : List ℕ × NbcBase) (later : Option (List ℕ × NbcBase)) (b m : Bool) → named t ≡ b → is_mutex_base (Some t.1) ≡ m → is_none t ≡ true
      → is_mutex_base (option_map (λ t. t.1) later) ≡ false → is_mutex_base (option_map (λ t. t.1) (cond b (Some t) later)) ≡ false
  by_first t later true true e f none more =
      let g : not (true && true) ≡ true = ap (λ m. not (m && true)) (sym f) ∙ ap (λ b. not (is_mutex_base (Some t.1) && b)) (sym e) ∙ none in
      let h : ⊥ = cc in
      absurd h
  by_first t later true false e f none more = f
  by_first t later false m e f none more = more

  -- a type that is found is no mutex where no mutex is named
  found_none : (ts : List (List ℕ × NbcBase)) → list_all is_none ts ≡ true → is_mutex_base (option_map (λ t. t.1) (find named ts)) ≡ false
  found_none [] none = refl
  found_none (t ∷ ts) none =
      let parts = and_parts (is_none t) (list_all is_none ts) none in
      by_first t (find named ts) (named t) (is_mutex_base (Some t.1)) refl refl parts.0 (found_none ts parts.1)

-- by the test of the name
pub mutex_named : (name text : List ℕ) (b : Bool) → text ≡ codes "mutex" → b ≡ bytes_eq name text → b ≡ is_mutex_base (plain_type name)
mutex_named name text true is test =
    let same : name ≡ codes "mutex" = (bytes_eq-Decides name text).0 (sym test) ∙ is in
    sym (ap (λ n. is_mutex_base (plain_type n)) same)
mutex_named name text false is test = sym (found_none (λ t. bytes_eq t.0 name) plain_types (and_from (not (bytes_eq (codes "mutex") name)) true (ap not other) refl))
  where
    by : (b : Bool) → bytes_eq (codes "mutex") name ≡ b → b ≡ false
    by false e = refl
    by true e =
        let same : codes "mutex" ≡ name = (bytes_eq-Decides (codes "mutex") name).0 e in
        let equal : bytes_eq name text ≡ true = (bytes_eq-Decides name text).1 (sym same ∙ sym is) in
        let f : ⊥ = cc in
        absurd f

    other : bytes_eq (codes "mutex") name ≡ false
    other = by (bytes_eq (codes "mutex") name) refl
