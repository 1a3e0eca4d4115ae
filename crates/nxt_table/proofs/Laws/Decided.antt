-- What the passes over a table find is broken, and each table is refused by a first rule or keeps them.
use Rattle.std.proofs.Common.{◌≡◌, ℕ, refl, sym, ap, ◌∙◌, subst, ◌⊎◌, inl, inr, ⊎_elim, Option, Some, None}
use Rattle.std.specs.Prelude.{map, IsTrue}
use Rattle.nxt_types.specs.Refusals.{comes_first, IsRefusal}
use Rattle.nxt_types.specs.Shapes.{outline}
use Rattle.nxt_rxe.specs.declared.parts.Parts.{Parts}
use Rattle.nxt_table.specs.declared.fault.TableFault.{TableFault}
use Rattle.nxt_table.specs.declared.fault.TableFault.TheVariants.{TypeCode, TypeOpen, Depth, MutexInside, Place, Overlap, DefaultsShort, NoMemory}
use Rattle.nxt_table.specs.Inside.Items.{first_from, open_from}
use Rattle.nxt_table.specs.Inside.Enclosing.{marks, is_deep, placed_entries, is_inner_mutex}
use Rattle.nxt_table.specs.Inside.LeafPasses.{first_leaf, passes_end, first_pair, lacking_from}
use Rattle.nxt_table.specs.Leaves.{sites, leaves}
use Rattle.nxt_table.specs.TableRules.{Broken, rank, has_unknown_code, is_too_deep, is_mutex_inside, is_misplaced, lacks_default}
use Rattle.nxt_table.specs.Inside.Checks.{IsFound, pair_fault_or, leaves_of, leaf_fault, table_fault}
use Rattle.nxt_table.specs.KeptTables.{KeepsTable}
use Rattle.nxt_table.proofs.Entries.Variables.{is_open_there}
use Rattle.nxt_table.proofs.Entries.First.{first_passes}
use Rattle.nxt_table.proofs.Laws.Leaves.{table_rises, first_leaf_passes}
use Rattle.nxt_table.proofs.Placement.FirstOverlap.{first_pair_passes}
use Rattle.nxt_table.proofs.Laws.Passes.{option_or, by_pass, nothing}
use Rattle.nxt_table.proofs.Laws.FirstBroken.{depths, mutexes, misplaced, pairs, defaults, first_fault, mutex_pass, depth_pass, open_pass, default_pass, overlap_pass, Whole, whole, finds}

-- ---- what is found is broken

by_pair : (P : TableFault → Type 0) (o : Option (ℕ × ℕ)) (more : Option TableFault) (f : TableFault) → pair_fault_or o more ≡ Some f →
    ((w : ℕ × ℕ) → o ≡ Some w → P (Overlap w.0 w.1)) → (o ≡ None → more ≡ Some f → P f) → P f
by_pair P None more f e here next = next refl e
by_pair P (Some w) more f e here next = let same : Overlap w.0 w.1 ≡ f = cc in subst P same (here w refl)

table_broken : (p : Parts) (f : TableFault) → table_fault p ≡ Some f → Broken p f
table_broken p f e =
    by_pass (Broken p) TypeCode (first_from has_unknown_code 0 p.toc) (open_pass p) f e (λ w h. first_passes has_unknown_code p.toc w h) (λ n e2.
    by_pass (Broken p) TypeOpen (open_from 0 0 0 (map outline p.toc)) (depth_pass p) f e2 (λ w h. is_open_there p.toc w h) (λ o e3.
    let h = whole p o in
    by_pass (Broken p) Depth (first_from is_deep 0 (marks p.toc)) (mutex_pass p) f e3
    (λ w k. (h.shapes, h.spelled, first_passes is_too_deep (sites h.shapes) w (sym (depths p h.shapes h.spelled) ∙ k))) (λ d e4.
    by_pass (Broken p) MutexInside (first_from is_inner_mutex 0 (placed_entries p.toc)) None f e4
    (λ w k. (h.shapes, h.spelled, first_passes is_mutex_inside (sites h.shapes) w (sym (mutexes p h.shapes h.spelled) ∙ k))) (λ m e5. cc))))

-- what a table without a fault spells
no_table_fault : (p : Parts) → table_fault p ≡ None → Whole p
no_table_fault p e =
    let a = nothing TypeCode (first_from has_unknown_code 0 p.toc) (open_pass p) e in
    let b = nothing TypeOpen (open_from 0 0 0 (map outline p.toc)) (depth_pass p) a.1 in
    whole p b.0

leaf_broken : (p : Parts) (f : TableFault) → Whole p → leaf_fault p ≡ Some f → Broken p f
leaf_broken p f h e =
    let rise = table_rises p.toc h.shapes in
    by_pass (Broken p) Place (first_leaf (passes_end p.header.static_size) (leaves_of p)) (overlap_pass p) f e
    (λ w k. (h.shapes, h.spelled, first_leaf_passes (is_misplaced p.header.static_size) (leaves p.toc h.shapes) w rise (sym (misplaced p h.shapes h.spelled) ∙ k))) (λ n e2.
    by_pair (Broken p) (first_pair (leaves_of p)) (default_pass p) f e2
    (λ w k. (h.shapes, h.spelled, first_pair_passes (leaves p.toc h.shapes) w.0 w.1 rise (sym (pairs p h.shapes h.spelled) ∙ k))) (λ m e3.
    by_pass (Broken p) DefaultsShort (lacking_from p.header.default_size 0 (leaves_of p)) None f e3
    (λ w k. (h.shapes, h.spelled, first_leaf_passes (lacks_default p (leaves p.toc h.shapes)) (leaves p.toc h.shapes) w rise (sym (defaults p h.shapes h.spelled) ∙ k))) (λ k e4. cc)))

-- ---- refusals

refused : (p : Parts) (f : TableFault) → first_fault p ≡ Some f → Broken p f → IsRefusal (Broken p) rank f
refused p f e b =
    record {
      broken = b;
      least = λ g c.
          let x = finds p g c in
          let s : Some x.fault ≡ Some f = sym x.found ∙ e in
          let same : x.fault ≡ f = cc in
          subst (λ q. IsTrue (comes_first (rank q) (rank g))) same x.order;
    }

-- what the leaves' passes find, where the table's find no fault
past_table_none : (p : Parts) → table_fault p ≡ None → first_fault p ≡ leaf_fault p
past_table_none p t = ap (λ o. option_or o (leaf_fault p)) t

table_refused : (p : Parts) (f : TableFault) → table_fault p ≡ Some f → IsRefusal (Broken p) rank f
table_refused p f e = refused p f (ap (λ o. option_or o (leaf_fault p)) e) (table_broken p f e)

leaf_refused : (p : Parts) (f : TableFault) → table_fault p ≡ None → leaf_fault p ≡ Some f → IsRefusal (Broken p) rank f
leaf_refused p f t e = refused p f (past_table_none p t ∙ e) (leaf_broken p f (no_table_fault p t) e)

-- where no fault is found, no rule is broken
pub keeps_table : (p : Parts) → table_fault p ≡ None → leaf_fault p ≡ None → KeepsTable p
keeps_table p t l =
    let h = no_table_fault p t in
    record {
      rules = λ g b.
          let x = finds p g b in
          let s : None ≡ Some x.fault = sym (past_table_none p t ∙ l) ∙ x.found in cc;
      shapes = h.shapes;
      spelled = h.spelled;
    }

-- ---- answers

-- a fault of the table or of the leaves, or want of memory
pub table_answer : (p : Parts) (f : TableFault) → IsFound (table_fault p) f → (f ≡ NoMemory) ⊎ IsRefusal (Broken p) rank f
table_answer p f h = ⊎_elim (λ e. inl e) (λ e. inr (table_refused p f e)) h

pub leaf_answer : (p : Parts) (f : TableFault) → table_fault p ≡ None → IsFound (leaf_fault p) f → (f ≡ NoMemory) ⊎ IsRefusal (Broken p) rank f
leaf_answer p f t h = ⊎_elim (λ e. inl e) (λ e. inr (leaf_refused p f t e)) h

-- each table is refused by a first rule, or keeps them
pub table_or_refusal : (p : Parts) → ((f : TableFault) × IsRefusal (Broken p) rank f) ⊎ KeepsTable p
table_or_refusal p = by_table (table_fault p) refl
  where
    by_leaves : (o : Option TableFault) → leaf_fault p ≡ o → table_fault p ≡ None → ((f : TableFault) × IsRefusal (Broken p) rank f) ⊎ KeepsTable p
    by_leaves None e table = inr (keeps_table p table e)
    by_leaves (Some f) e table = inl (f, leaf_refused p f table e)

    by_table : (o : Option TableFault) → table_fault p ≡ o → ((f : TableFault) × IsRefusal (Broken p) rank f) ⊎ KeepsTable p
    by_table None e = by_leaves (leaf_fault p) refl e
    by_table (Some f) e = inl (f, table_refused p f e)
