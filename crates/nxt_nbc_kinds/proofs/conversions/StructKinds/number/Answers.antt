use Rattle.std.proofs.Common.{◌≡◌, List, [], ◌∷◌, ◌++◌, Bool, true, false, if◌then◌else◌, map, Some, Vec, Global, refl, ap, ◌∙◌}
use Rattle.std.specs.List.{list_any, position_or_len}
use Rattle.std.proofs.lemmas.List.{map_push}
use Rattle.nxt_nbc_kinds.specs.declared.conversions.TypeKind.{TypeKind}
use Rattle.nxt_nbc_kinds.specs.Kinds.{same_members}
use Rattle.nxt_nbc_kinds.proofs.DerivedTests.{any_seen, members_tested, position_seen}
use Rattle.nxt_nbc_kinds.proofs.conversions.StructKinds.number.Goals as goal

abbrev items : Vec TypeKind Global → List TypeKind
items v = v.items

pushed : (b : Bool) (vs : List (Vec TypeKind Global)) (v : Vec TypeKind Global) → map items (if b then vs else vs ++ v ∷ []) ≡ (if b then map items vs else map items vs ++ v.items ∷ [])
pushed true vs v = refl
pushed false vs v = map_push items vs v

pub returns-clause-number : goal.returns-clause-number
returns-clause-number c =
    let ms = c.args.members.items in
    ap Some
    (c.in_ok-number.ensures.index
    ∙ position_seen items _ (same_members ms) (λ v. members_tested ms v.items) c.self.inside.known.keys
    ∙ ap (position_or_len (same_members ms)) c.self.view_is)

pub returns-clause-known : goal.returns-clause-known
returns-clause-known c =
    let v = c.args.members in
    let keys = c.self.inside.known.keys in
    ap (map items) c.in_ok-number.ensures.keys
    ∙ pushed _ keys v
    ∙ ap (λ b. if b then map items keys else map items keys ++ v.items ∷ []) (any_seen items _ (same_members v.items) (λ w. members_tested v.items w.items) keys)
    ∙ ap (λ known. if list_any (same_members v.items) known then known else known ++ v.items ∷ []) c.self.view_is
