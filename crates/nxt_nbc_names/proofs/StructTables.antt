-- Where a name stands in a table of structs.
use Rattle.std.proofs.Common.{◌≡◌, ℕ, Bool, cond, nat_lt, bytes_eq, List, [], ◌∷◌, ◌++◌, map, position, get_or, Some, None, sym, ap, subst, ◌∙◌}
use Rattle.std.proofs.Math.ListN.{get_or-map}
use Rattle.std.proofs.lemmas.List.{map-append}
use Rattle.nxt_model.specs.Nbc.Types.{Struct, StructMember, is_before}
use Rattle.nxt_nbc_names.specs.Structs.{Rises, RisesTo}
use Rattle.nxt_nbc_names.specs.StructsSeen.{AreMeasured, struct_seen, structs_seen}
use Rattle.nxt_nbc_names.specs.Inside.Structs.{IsStructTable}
use Rattle.nxt_nbc_names.specs.declared.structs.Struct.{Struct as ProgramStruct}
use Rattle.nxt_nbc_names.proofs.Positions.{position_map}
use Rattle.nxt_nbc_names.proofs.ReadLines.{rises_push, rises_still}
use Rattle.nxt_nbc_names.proofs.StructPlaces.{is_named, kept_before, none_named, place_before}

module _ (structs : List ProgramStruct) (kept : List (List ℕ)) (types : List Struct) (whole : IsStructTable structs kept) (is : structs_seen structs ≡ types)
    (name : List ℕ) (line : ℕ) where
  -- among the names
  name_place : position (λ n. bytes_eq n name) kept ≡ position (is_named name) types
  name_place =
      ap (position (λ n. bytes_eq n name)) whole.names
      ∙ position_map (λ (s : Struct). s.name) (λ n. bytes_eq n name) (structs_seen structs)
      ∙ ap (position (is_named name)) is

  -- no struct has the name
  pub before_none : None ≡ position (λ n. bytes_eq n name) kept → None ≡ position (is_before line name) types
  before_none gone = sym (none_named line name types (sym (gone ∙ name_place)))

  -- the first that has it
  pub before_first : (i : ℕ) (s : ProgramStruct) (b : Bool) → Some i ≡ position (λ n. bytes_eq n name) kept → s ≡ get_or structs i s → nat_lt s.line line ≡ b
      → cond b (Some i) None ≡ position (is_before line name) types
  before_first i s b first there test =
      let at : get_or types i (struct_seen s) ≡ struct_seen s =
      ap (λ ts. get_or ts i (struct_seen s)) (sym is) ∙ get_or-map struct_seen structs i s ∙ sym (ap struct_seen there) in
      sym
      (place_before 0 line name types (struct_seen s) (subst (Rises 0) is whole.rises)
      ∙ ap (kept_before line types (struct_seen s)) (sym (first ∙ name_place))
      ∙ ap (λ (u : Struct). cond (nat_lt u.line line) (Some i) None) at
      ∙ ap (λ a. cond a (Some i) None) test)

-- ---- one more

module _ (ss : List ProgramStruct) (s : ProgramStruct) (name : List ℕ) (ms : List StructMember) (line : ℕ)
    (seen : struct_seen s ≡ record { name = name; members = ms; line = line }) (rises : RisesTo 0 line (structs_seen ss)) where
  pub table_push : (kept : List (List ℕ)) → IsStructTable ss kept → AreMeasured (ss ++ s ∷ []) → IsStructTable (ss ++ s ∷ []) (kept ++ name ∷ [])
  table_push kept whole measured =
      let one_more = map-append struct_seen ss (s ∷ []) in
      record {
        names =
            ap (λ ns. ns ++ name ∷ []) whole.names
            ∙ ap (λ (x : Struct). map (λ y. y.name) (structs_seen ss) ++ x.name ∷ []) (sym seen)
            ∙ sym (map-append (λ (x : Struct). x.name) (structs_seen ss) (struct_seen s ∷ []))
            ∙ sym (ap (map (λ x. x.name)) one_more);
        rises = subst (Rises 0) (sym one_more) (rises_push 0 line (structs_seen ss) (struct_seen s) (ap (λ x. x.line) seen) rises);
        measured = measured;
      }

  pub table_rises : RisesTo 0 line (structs_seen (ss ++ s ∷ []))
  table_rises =
      subst (RisesTo 0 line) (sym (map-append struct_seen ss (s ∷ []))) (rises_still 0 line (structs_seen ss) (struct_seen s) (ap (λ x. x.line) seen) rises)
