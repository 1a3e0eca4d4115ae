-- The sort of a name by its position.
use Rattle.std.proofs.Common.{◌≡◌, ℕ, ◌<◌, Bool, List, map, length, position, bytes_eq, get_or, slice_get, Option, Some, None, option_map, refl, sym, ap, ◌∙◌, arith}
use Rattle.std.specs.Prelude.{find, option_and_then}
use Rattle.std.proofs.lemmas.List.{length-map}
use Rattle.std.proofs.lemmas.List.Quantifiers.{position-Some}
use Rattle.std.proofs.lemmas.Option.{slice_get-map, slice_get_read}
use Rattle.nxt_model.specs.Nbc.Text.{NameSort}
use Rattle.nxt_nbc_names.specs.NamesSeen.{name_seen, sort_seen}
use Rattle.nxt_nbc_names.specs.declared.names.DeclaredName.{DeclaredName}
use Rattle.nxt_nbc_names.proofs.LabelNames.{find_by}
use Rattle.nxt_nbc_names.proofs.Positions.{position_map}

module _ (ds : List DeclaredName) (kept : List (List ℕ)) (all : List (List ℕ × NameSort)) (names : kept ≡ map (λ x. x.0) (map name_seen ds))
    (is : map name_seen ds ≡ all) (name : List ℕ) where
  abbrev is_named : List ℕ × NameSort → Bool
  is_named d = bytes_eq d.0 name

  abbrev sort : List ℕ × NameSort → NameSort
  sort d = d.1

  place : position (λ n. bytes_eq n name) kept ≡ position is_named all
  place =
      ap (position (λ n. bytes_eq n name)) names
      ∙ position_map (λ (d : List ℕ × NameSort). d.0) (λ n. bytes_eq n name) (map name_seen ds)
      ∙ ap (position is_named) is

  sort_by : (o : Option ℕ) → o ≡ position (λ n. bytes_eq n name) kept → option_map sort (option_and_then (slice_get all) o) ≡ option_map sort (find is_named all)
  sort_by o e =
      ap (λ p. option_map sort (option_and_then (slice_get all) p)) (e ∙ place) ∙ sym (ap (option_map sort) (find_by is_named all))

  pub sort_missing : None ≡ position (λ n. bytes_eq n name) kept → None ≡ option_map sort (find is_named all)
  sort_missing e = sort_by None e

  pub sort_there : (i : ℕ) (d : DeclaredName) → Some i ≡ position (λ n. bytes_eq n name) kept → d ≡ get_or ds i d → Some (sort_seen d.sort) ≡ option_map sort (find is_named all)
  sort_there i d e read =
      let within = (position-Some is_named all i (name_seen d) (sym (e ∙ place))).0 in
      let inside : i < length ds = omega (arith, within, length-map ds name_seen, ap length is) in
      sym
      (ap (λ xs. option_map sort (slice_get xs i)) (sym is)
      ∙ ap (option_map sort) (slice_get-map name_seen ds i ∙ ap (option_map name_seen) (slice_get_read ds (length ds) i d refl inside read)))
      ∙ sort_by (Some i) e
