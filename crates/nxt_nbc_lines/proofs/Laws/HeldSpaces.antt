-- Names that are declared twice are the same where numbers are held.
use Rattle.std.proofs.Common.{◌≡◌, ℕ, Bool, ◌==◌, ◌&&◌, ◌||◌, List, [], ◌∷◌, ◌++◌, map, filter_map, refl, ap, ◌∙◌}
use Rattle.std.specs.List.{list_any}
use Rattle.nxt_model.specs.Nbc.Forms.{Form, Declare, OpenStruct, CloseStruct, Member}
use Rattle.nxt_model.specs.Nbc.Text.{Block, Source, source_of}
use Rattle.nxt_model.specs.Nbc.NbcRules.{Declared, shared_name, members_in, member_spaces, label_space, spaces, is_repeated, is_taken, is_twice_named}
use Rattle.nxt_nbc_lines.proofs.Laws.HeldLists.{map_alike, pick_alike}
use Rattle.nxt_nbc_lines.proofs.Laws.HeldSources.{held_at, held_forms, held_block, source_held}
use Rattle.nxt_nbc_lines.proofs.Laws.HeldNames.{labels_held}

shared_held : (x : ℕ × Form) → shared_name (held_at x) ≡ shared_name x
shared_held (l, Declare n t g) = refl
shared_held (l, f) = refl

members_held : (fs : List (ℕ × Form)) → members_in (held_forms fs) ≡ members_in fs
members_held [] = refl
members_held ((l, Member n t) ∷ fs) = ap (λ ds. (l, n) ∷ ds) (members_held fs)
members_held ((l, CloseStruct) ∷ fs) = refl
members_held ((l, f) ∷ fs) = members_held fs

member_spaces_held : (fs : List (ℕ × Form)) → member_spaces (held_forms fs) ≡ member_spaces fs
member_spaces_held [] = refl
member_spaces_held ((l, OpenStruct n) ∷ fs) =
    ap (λ ds. ds ∷ member_spaces (held_forms fs)) (members_held fs) ∙ ap (λ ss. members_in fs ∷ ss) (member_spaces_held fs)
member_spaces_held ((l, f) ∷ fs) = member_spaces_held fs

label_spaces_held : (bs : List Block) → map label_space (map held_block bs) ≡ map label_space bs
label_spaces_held bs = map_alike held_block label_space label_space (λ b. ap (map (λ l. (l.line, l.name))) (labels_held 0 b.items)) bs

abbrev all_spaces : List Declared → List (List Declared) → Source → List (List Declared)
all_spaces names members src = names ∷ members ++ map label_space src.blocks

pub spaces_held : (fs : List (ℕ × Form)) → spaces (held_forms fs) ≡ spaces fs
spaces_held fs =
    let gs = held_forms fs in
    ap (λ ds. all_spaces ds (member_spaces gs) (source_of gs)) (pick_alike held_at shared_name shared_held fs)
    ∙ ap (λ ss. all_spaces (filter_map shared_name fs) ss (source_of gs)) (member_spaces_held fs)
    ∙ ap (λ s. all_spaces (filter_map shared_name fs) (member_spaces fs) s) (source_held fs)
    ∙ ap (λ ss. filter_map shared_name fs ∷ member_spaces fs ++ ss) (label_spaces_held (source_of fs).blocks)

-- a line declares a name of a space again, or one that a type has
abbrev is_twice : ℕ → Source → List Declared → Bool
is_twice line src ds = is_repeated line ds || list_any (λ d. (d.0 == line) && is_taken src line d.1) ds

pub twice_named_held : (fs : List (ℕ × Form)) (line : ℕ) → is_twice_named (held_forms fs) line ≡ is_twice_named fs line
twice_named_held fs line =
    ap (λ s. list_any (is_twice line s) (spaces (held_forms fs))) (source_held fs) ∙ ap (list_any (is_twice line (source_of fs))) (spaces_held fs)
