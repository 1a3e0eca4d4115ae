-- A table that spells variables is open nowhere.
use Rattle.std.proofs.Common.{◌≡◌, ℕ, ◌+◌, ◌-◌, ◌<◌, not, List, [], ◌++◌, map, take, drop, length, refl, sym, ap, ◌∙◌, append_assoc, arith, length-append, length-drop, take-append-drop}
use Rattle.std.specs.Prelude.{IsTrue}
use Rattle.std.proofs.lemmas.List.{length-map, map-append, take-map, take_at}
use Rattle.nxt_types.specs.Shapes.{Shape, Members, no_members, member, bare, outline, spelling, spellings, Spells}
use Rattle.nxt_types.specs.declared.shape.TocEntry.{TocEntry}
use Rattle.nxt_types.proofs.Laws.Shapes.{spelling_front}
use Rattle.nxt_table.specs.Leaves.{sites_in, voids_stand_alone}
use Rattle.nxt_table.specs.TableRules.{IsOpen}
use Rattle.nxt_facts.proofs.Each.{each_then, passes_each}
use Rattle.nxt_asm_laws_layout.proofs.Laws.Spelled.{spelling-bare}
use Rattle.nxt_asm_laws_layout.proofs.Laws.Parts.{IsVariable, AreVariables, IsFine, variable_filled, variable_sites}

-- ---- the next variable

-- these outlines begin with those of a variable
record Begins (rest : List (ℕ × ℕ)) : Type 0 where
  shape : Shape
  variable : IsVariable shape
  more : List (ℕ × ℕ)
  front : rest ≡ spelling shape ++ more

none_behind : {X : Type 0} (xs ys : List X) → xs ++ ys ≡ [] → 0 < length ys → ⊥
none_behind xs ys e some = let l = ap length e in omega (arith, l, length-append xs ys, some)

-- what follows whole variables begins with a variable
next_begins : (bs ss : Members) (rest : List (ℕ × ℕ)) → AreVariables ss → spellings bs ++ rest ≡ spellings ss → 0 < length rest → Begins rest
next_begins no_members no_members rest all e some = absurd (none_behind [] rest e some)
next_begins no_members (member s ss) rest all e some = record { shape = s; variable = all.0; more = spellings ss; front = e }
next_begins (member b bs) no_members rest all e some = absurd (none_behind (spellings (member b bs)) rest e some)
next_begins (member b bs) (member s ss) rest all e some =
    let two = spelling_front b s (spellings bs ++ rest) (spellings ss) (sym (append_assoc (spelling b) (spellings bs) rest) ∙ e) in
    next_begins bs ss rest all.1 two.1 some

-- ---- the table

no_void : (s : Shape) → IsVariable s → IsTrue (voids_stand_alone (sites_in (bare s) 0 0 []))
no_void s h =
    passes_each _ (sites_in (bare s) 0 0 [])
    (each_then IsFine _ (λ t fine. ap (λ b. not b) fine.void) (sites_in (bare s) 0 0 []) (variable_sites s 0 h))

module _ (table : List TocEntry) (ss : Members) (all : AreVariables ss) (spells : map outline table ≡ spellings ss) where
  behind : (e : ℕ) (before : Members) → map outline (take e table) ≡ spellings before → spellings before ++ map outline (drop e table) ≡ spellings ss
  behind e before h =
      ap (λ l. l ++ map outline (drop e table)) (sym h)
      ∙ sym (map-append outline (take e table) (drop e table))
      ∙ ap (map outline) (take-append-drop e table)
      ∙ spells

  shape_there : (e : ℕ) (b : Begins (map outline (drop e table))) → e < length table → Spells table e (e + length (spelling b.shape)) (bare b.shape)
  shape_there e b inside =
      let n = length (spelling b.shape) in
      let same : e + n - e ≡ n = omega arith in
      let long : length (drop e table) ≡ n + length b.more =
      sym (length-map (drop e table) outline) ∙ ap length b.front ∙ length-append (spelling b.shape) b.more in
      record {
        ordered = omega arith;
        within = omega (arith, long, length-drop e table, inside);
        entries =
            ap (λ k. map outline (take k (drop e table))) same
            ∙ sym (take-map outline n (drop e table))
            ∙ ap (take n) b.front
            ∙ take_at (spelling b.shape) b.more n refl
            ∙ sym (spelling-bare b.shape);
        filled = variable_filled b.shape b.variable;
      }

  pub not_open : (e : ℕ) → IsOpen table e → ⊥
  not_open e o =
      let some : 0 < length (map outline (drop e table)) = omega (arith, length-map (drop e table) outline, length-drop e table, o.inside) in
      let b = next_begins o.before ss (map outline (drop e table)) all (behind e o.before o.whole.spelled.entries) some in
      o.opens (e + length (spelling b.shape)) (bare b.shape) (shape_there e b o.inside) (no_void b.shape b.variable)
