-- The header's structs, one behind another.
use Rattle.std.proofs.Common.{◌≡◌, ℕ, zero, suc, ◌+◌, ◌<◌, List, [], ◌∷◌, ◌++◌, map, take, length, get_or, Bor, refl, sym, ap, subst, ◌∙◌, arith, rules}
use Rattle.std.specs.Prelude.{⊤, slice_index_or}
use Rattle.std.proofs.Math.ListN.{get_or-map}
use Rattle.std.proofs.lemmas.List.{append_assoc, length-map, map_more}
use Rattle.nxt_model.specs.declared.nbc.NbcType.{NbcType}
use Rattle.nxt_model.specs.Nbc.Header.{header_structs, struct_behind}
use Rattle.nxt_model.specs.Nbc.Types.{Struct, StructMember}
use Rattle.nxt_nbc_names.specs.HeaderSeen.{IsNear, header_member_seen, header_row, header_struct_seen}
use Rattle.nxt_nbc_names.specs.declared.header.HeaderStruct.{HeaderStruct as ProgramStruct}

pub header_length : length header_structs ≡ 17
header_length = refl

-- with the struct at a position
pub rows_more : (first line at : ℕ) (old : List Struct) (s : Struct) → at < length header_structs → s ≡ struct_behind first line (header_row at)
    → (old ++ map (struct_behind first line) (take at header_structs)) ++ s ∷ [] ≡ old ++ map (struct_behind first line) (take (at + 1) header_structs)
rows_more first line at old s under e =
    let front = map (struct_behind first line) (take at header_structs) in
    append_assoc old front (s ∷ [])
    ∙ ap (λ xs. old ++ xs) (ap (λ x. front ++ x ∷ []) e ∙ sym (map_more (struct_behind first line) header_structs at _ under))

-- ---- types of members

abbrev AreNear : List StructMember → Type 0
AreNear [] = ⊤
AreNear (m ∷ ms) = IsNear m.type × AreNear ms

abbrev HaveNear : List Struct → Type 0
HaveNear [] = ⊤
HaveNear (s ∷ ss) = AreNear s.members × HaveNear ss

near_row : (ss : List Struct) (d : Struct) (i : ℕ) → HaveNear ss → AreNear d.members → AreNear (slice_index_or ss i d).members
near_row [] d i h last = last
near_row (s ∷ ss) d zero h last = h.0
near_row (s ∷ ss) d (suc i) h last = near_row ss d i h.1 last

near_at : (ms : List StructMember) (i : ℕ) (m : StructMember) → AreNear ms → i < length ms → IsNear (get_or ms i m).type
near_at [] i m h under = absurd (omega (arith, under))
near_at (x ∷ ms) zero m h under = h.0
near_at (x ∷ ms) (suc i) m h under = near_at ms i m h.1 (omega (arith, under))

near_all : HaveNear header_structs
near_all = search rules

-- each is no struct behind the header's
pub member_near : (s : ProgramStruct) (at i : ℕ) (m : Bor (List ℕ) × NbcType) → header_struct_seen s ≡ header_row at → i < length s.members.now
    → IsNear (get_or s.members.now i m).1
member_near s at i m seen under =
    let ms = map header_member_seen s.members.now in
    let members : ms ≡ (header_row at).members = ap (λ (x : Struct). x.members) seen in
    let within : i < length ms = omega (arith, under, length-map s.members.now header_member_seen) in
    let near : AreNear ms = subst AreNear (sym members) (near_row header_structs _ at near_all (tt, tt)) in
    subst IsNear (ap (λ (x : StructMember). x.type) (get_or-map header_member_seen s.members.now i m)) (near_at ms i (header_member_seen m) near within)
