-- The first label of a name by its position.
use Rattle.std.proofs.Common.{◌≡◌, ℕ, ◌<◌, suc, Bool, true, false, List, [], ◌∷◌, length, map, position, cond, bytes_eq, get_or, slice_get, Option, Some, None, option_map, refl, sym, ap, ◌∙◌, arith}
use Rattle.std.specs.Prelude.{find, option_and_then}
use Rattle.std.proofs.lemmas.List.{length-map}
use Rattle.std.proofs.lemmas.List.Quantifiers.{position-Some}
use Rattle.std.proofs.lemmas.Option.{slice_get-map, slice_get_read}
use Rattle.nxt_model.specs.Nbc.Text.{LabelAt, label_named}
use Rattle.nxt_nbc_names.specs.LabelsSeen.{label_seen}
use Rattle.nxt_nbc_names.specs.declared.labels.Label.{Label as ProgramLabel}
use Rattle.nxt_nbc_names.proofs.Positions.{position_front}

-- the first item that passes stands at the first position
pub find_by : {X : Type 0} (p : X → Bool) (xs : List X) → find p xs ≡ option_and_then (slice_get xs) (position p xs)
find_by p [] = refl
find_by p (x ∷ xs) =
    ap (cond (p x) (Some x)) (find_by p xs)
    ∙ by (p x) (position p xs)
    ∙ sym (ap (option_and_then (slice_get (x ∷ xs))) (position_front p x xs))
  where
    by : (b : Bool) (o : Option ℕ) → cond b (Some x) (option_and_then (slice_get xs) o) ≡ option_and_then (slice_get (x ∷ xs)) (cond b (Some 0) (option_map suc o))
    by true o = refl
    by false None = refl
    by false (Some i) = refl

module _ (ls : List ProgramLabel) (name : List ℕ) where
  abbrev is_named : LabelAt → Bool
  is_named l = bytes_eq l.name name

  by_position : (o : Option ℕ) → o ≡ position is_named (map label_seen ls)
      → option_map (λ (l : LabelAt). l.position) (option_and_then (slice_get (map label_seen ls)) o) ≡ label_named (map label_seen ls) name
  by_position o e =
      ap (λ p. option_map (λ (l : LabelAt). l.position) (option_and_then (slice_get (map label_seen ls)) p)) e
      ∙ sym (ap (option_map (λ (l : LabelAt). l.position)) (find_by is_named (map label_seen ls)))

  pub label_missing : None ≡ position is_named (map label_seen ls) → None ≡ label_named (map label_seen ls) name
  label_missing e = by_position None e

  pub label_there : (i : ℕ) (l : ProgramLabel) → Some i ≡ position is_named (map label_seen ls) → l ≡ get_or ls i l → Some l.position ≡ label_named (map label_seen ls) name
  label_there i l e read =
      let within = (position-Some is_named (map label_seen ls) i (label_seen l) (sym e)).0 in
      let inside : i < length ls = omega (arith, within, length-map ls label_seen) in
      sym
      (ap (option_map (λ (x : LabelAt). x.position))
      (slice_get-map label_seen ls i ∙ ap (option_map label_seen) (slice_get_read ls (length ls) i l refl inside read)))
      ∙ by_position (Some i) e
