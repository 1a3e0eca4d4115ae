-- What a file's layout and code tell of its listing.
use Rattle.std.proofs.Common.{◌≡◌, ℕ, Bool, true, false, ◌||◌, ◌==◌, List, [], ◌∷◌, ◌++◌, map, refl, sym, ap, ap₂, ◌∙◌, subst, if◌then◌else◌}
use Rattle.std.specs.Prelude.{flat_map}
use Rattle.std.specs.List.{list_any, enumerate_from}
use Rattle.std.proofs.lemmas.List.Folds.{list_any-append}
use Rattle.nxt_types.specs.declared.kind.Kind.{Kind}
use Rattle.nxt_types.specs.declared.kind.Kind.TheVariants.{Ubyte, Sbyte, Uword, Sword, Ulong, Slong}
use Rattle.nxt_types.specs.declared.shape.TocEntry.{TocEntry}
use Rattle.nxt_types.specs.Shapes.{Shape, Void, Number, Array, Cluster, Mutex, Members, no_members, member, has_list, some_list, outline, code_of, spelling, spellings, SpellsAll}
use Rattle.nxt_types.specs.Statements.{statements}
use Rattle.nxt_rxe.specs.declared.parts.Header.{Header}
use Rattle.nxt_rxe.specs.declared.parts.Parts.{Parts}
use Rattle.nxt_model.specs.Reading.{Memory, row_count}
use Rattle.nxt_layout.specs.Start.{memory, file_rows}
use Rattle.nxt_layout.specs.Layouts.{FileLayout, IsLayout}
use Rattle.nxt_code.specs.declared.code.Code.{Code as AcceptedCode}
use Rattle.nxt_list.specs.Listing.{header_line, entry_line, lines_of_rows, row_lines, clump_lines, statement_line, listing}
use Rattle.nxt_list.specs.Listed.{AreOfParts}
use Rattle.nxt_list.specs.Inside.RowLines.{has_array_entry, lines_of_layout}

-- ---- arrays

no_array : (k : Kind) → (code_of k == 7) ≡ false
no_array Ubyte = refl
no_array Sbyte = refl
no_array Uword = refl
no_array Sword = refl
no_array Ulong = refl
no_array Slong = refl

abbrev begins_array : ℕ × ℕ → Bool
begins_array o = o.0 == 7

mutual
  one_spells : (s : Shape) → list_any begins_array (spelling s) ≡ has_list s
  one_spells Void = refl
  one_spells (Number k) = ap (λ b. b || false) (no_array k)
  one_spells (Array n s) = refl
  one_spells (Cluster ss) = all_spell ss
  one_spells Mutex = refl

  all_spell : (ss : Members) → list_any begins_array (spellings ss) ≡ some_list ss
  all_spell no_members = refl
  all_spell (member s ss) =
      list_any-append begins_array (spelling s) (spellings ss)
      ∙ ap₂ (λ (a b : Bool). a || b) (one_spells s) (all_spell ss)

by_outline : (es : List TocEntry) → has_array_entry es ≡ list_any begins_array (map outline es)
by_outline [] = refl
by_outline (e ∷ es) = ap (λ b. (e.code == 7) || b) (by_outline es)

-- a table has an array's entry where its variables have a list
spells_list : (table : List TocEntry) (ss : Members) → SpellsAll table ss → has_array_entry table ≡ some_list ss
spells_list table ss h = by_outline table ∙ ap (list_any begins_array) h.entries ∙ all_spell ss

-- ---- rows

where_some : (b : Bool) (m : Memory) → (if b then lines_of_rows m (if b then row_count m else 1) else []) ≡ (if b then lines_of_rows m (row_count m) else [])
where_some true m = refl
where_some false m = refl

-- the rows of a layout are those of the file
rows_are : (p : Parts) (l : FileLayout) → IsLayout p l → lines_of_layout l ≡ row_lines p l.shapes
rows_are p l made =
    let ss = made.shapes in
    let m = memory p ss in
    subst
    (λ (x : FileLayout). lines_of_layout x ≡ row_lines p x.shapes)
    (sym made.layout)
    (ap (λ b. if b then lines_of_rows m (file_rows p ss) else []) (spells_list p.toc ss made.starts.reads.spelled)
    ∙ where_some (some_list ss) m)

-- ---- the whole

-- the lines, written part by part
pub listed : (p : Parts) (h : Header) (l : FileLayout) (c : AcceptedCode) (t₁ t₂ t₃ t₄ t₅ : List ℕ) → AreOfParts p h l c
    → t₁ ≡ header_line h → t₂ ≡ t₁ ++ flat_map entry_line (enumerate_from 0 l.entries) → t₃ ≡ t₂ ++ lines_of_layout l
    → t₄ ≡ t₃ ++ clump_lines c.clumps c.dependents → t₅ ≡ t₄ ++ flat_map statement_line (statements c.words)
    → t₅ ≡ listing p l.shapes
listed p h l c t₁ t₂ t₃ t₄ t₅ made header table rows clumps code =
    let entries : l.entries ≡ p.toc = ap (λ (x : FileLayout). x.entries) made.layout.layout in
    code
    ∙ ap₂ (λ (t u : List ℕ). t ++ u)
    (clumps
    ∙ ap₂ (λ (t u : List ℕ). t ++ u)
    (rows
    ∙ ap₂ (λ (t u : List ℕ). t ++ u)
    (table ∙ ap₂ (λ (t : List ℕ) (es : List TocEntry). t ++ flat_map entry_line (enumerate_from 0 es)) (header ∙ ap header_line made.header) entries)
    (rows_are p l made.layout))
    (ap₂ clump_lines made.clumps made.dependents))
    (ap (λ ws. flat_map statement_line (statements ws)) made.words)
