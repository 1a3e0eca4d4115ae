-- The names of a generated text are declared once, and none is taken.
use Rattle.std.proofs.Common.{◌≡◌, ℕ, ◌==◌, Bool, true, false, ◌&&◌, ◌||◌, List, [], ◌∷◌, ◌++◌, map, filter_map, length, bytes_eq, refl, sym, ap, ap₂, ◌∙◌, arith, sum_by}
use Rattle.std.specs.Prelude.{codes, nat_lt}
use Rattle.std.specs.List.{list_any}
use Rattle.std.proofs.lemmas.Bool.Decides.{nat_tests}
use Rattle.nxt_model.specs.Nbc.Forms.{Form}
use Rattle.nxt_model.specs.Nbc.NbcRules.{Declared, is_repeated, is_taken, is_too_many, is_twice_named, label_space, member_spaces, shared_name, spaces}
use Rattle.nxt_model.specs.Nbc.Text.{LabelAt, Source, labels_from}
use Rattle.nxt_gen_laws.specs.Head.{head_forms, source_with}
use Rattle.nxt_gen_laws.specs.Rows.{Row, row_forms}
use Rattle.nxt_gen_laws.proofs.Declared.Sources.{no_labels, no_members, no_names, source_is}

-- ---- tests

either_false : (a b : Bool) → (a || b) ≡ false → (a ≡ false) × (b ≡ false)
either_false false false e = (refl, refl)
either_false false true e = absurd (let f : true ≡ false = e in let g : ⊥ = cc in g)
either_false true b e = absurd (let f : true ≡ false = e in let g : ⊥ = cc in g)

and_false : (a b : Bool) → b ≡ false → (a && b) ≡ false
and_false true b e = e
and_false false b e = refl

-- none has the name, and none on a line has it
any_less : (line : ℕ) (name : List ℕ) (ds : List Declared) → list_any (λ e. bytes_eq e.1 name) ds ≡ false → list_any (λ e. (e.0 == line) && bytes_eq e.1 name) ds ≡ false
any_less line name [] e = refl
any_less line name (d ∷ ds) e =
    let both = either_false (bytes_eq d.1 name) (list_any (λ e. bytes_eq e.1 name) ds) e in
    ap₂ (λ a b. a || b) (and_false (d.0 == line) (bytes_eq d.1 name) both.0) (any_less line name ds both.1)

-- a name stands twice
abbrev has_twice : List Declared → Bool
has_twice [] = false
has_twice (d ∷ ds) = list_any (λ e. bytes_eq e.1 d.1) ds || has_twice ds

never_repeated : (line : ℕ) (ds : List Declared) → has_twice ds ≡ false → is_repeated line ds ≡ false
never_repeated line [] e = refl
never_repeated line (d ∷ ds) e =
    let both = either_false (list_any (λ e. bytes_eq e.1 d.1) ds) (has_twice ds) e in
    ap₂ (λ a b. a || b) (any_less line d.1 ds both.0) (never_repeated line ds both.1)

module _ (src : Source) (line : ℕ) where
  taken_here : (d : Declared) (b : Bool) → (d.0 == line) ≡ b → is_taken src d.0 d.1 ≡ false → (b && is_taken src line d.1) ≡ false
  taken_here d false e free = refl
  taken_here d true e free = let same : d.0 ≡ line = grind (arith, nat_tests) in ap (λ l. is_taken src l d.1) (sym same) ∙ free

  never_taken : (ds : List Declared) → list_any (λ d. is_taken src d.0 d.1) ds ≡ false → list_any (λ d. (d.0 == line) && is_taken src line d.1) ds ≡ false
  never_taken [] e = refl
  never_taken (d ∷ ds) e =
      let both = either_false (is_taken src d.0 d.1) (list_any (λ d. is_taken src d.0 d.1) ds) e in
      ap₂ (λ a b. a || b) (taken_here d (d.0 == line) refl both.0) (never_taken ds both.1)

-- ---- the names of a text

abbrev names_with : List Declared → List Declared
names_with ds =
    (3, codes "a0") ∷ (4, codes "a1") ∷ (5, codes "a2") ∷ (6, codes "a3") ∷ (7, codes "a4") ∷ (8, codes "a5")
    ∷ (9, codes "a6") ∷ (10, codes "a7") ∷ (11, codes "n") ∷ (13, codes "main") ∷ ds

abbrev label_names : List LabelAt → List Declared
label_names ls = map (λ l. (l.line, l.name)) ls

module _ (rs : List Row) where
  abbrev items : List (ℕ × Form)
  items = row_forms 14 rs

  spaces_are : spaces (head_forms items) ≡ names_with [] ∷ [] ∷ []
  spaces_are =
      ap (λ (s : Source). names_with (filter_map shared_name items) ∷ member_spaces items ++ map label_space s.blocks) (source_is rs)
      ∙ ap (λ ds. names_with ds ∷ member_spaces items ++ label_names (labels_from 0 items) ∷ []) (no_names 14 rs)
      ∙ ap (λ dss. names_with [] ∷ dss ++ label_names (labels_from 0 items) ∷ []) (no_members 14 rs)
      ∙ ap (λ ls. names_with [] ∷ label_names ls ∷ []) (no_labels 0 14 rs)

  names_once : has_twice (names_with []) ≡ false
  names_once = refl

  names_free : list_any (λ d. is_taken (source_with items) d.0 d.1) (names_with []) ≡ false
  names_free = refl

  -- no name is declared again
  pub none_twice : (line : ℕ) → is_twice_named (head_forms items) line ≡ false
  none_twice line =
      ap₂ (λ (s : Source) (dss : List (List Declared)). list_any (λ ds. is_repeated line ds || list_any (λ d. (d.0 == line) && is_taken s line d.1) ds) dss) (source_is rs) spaces_are
      ∙ ap₂ (λ a b. (a || b) || false) (never_repeated line (names_with []) names_once) (never_taken (source_with items) line (names_with []) names_free)

  -- and they are few
  pub few_names : is_too_many (head_forms items) 1 ≡ false
  few_names = ap (λ dss. nat_lt 10000 (sum_by (λ ds. length ds) dss)) spaces_are
