-- The programs of accepted files run with right dumps.
use Rattle.std.proofs.Common.{◌≡◌, ℕ, ◌^◌, ◌<◌, ◌≤◌, List, length, Some, inl, inr, refl, ap, ◌∙◌, arith}
use Rattle.std.specs.Prelude.{slice_get}
use Rattle.std.proofs.lemmas.Bool.{cases_lt, false_from_ne_true}
use Rattle.nxt_types.specs.OperandRules.{AreFit}
use Rattle.nxt_types.specs.Pool.{pool_size}
use Rattle.nxt_types.specs.Refusals.{IsAccepted}
use Rattle.nxt_types.specs.Shapes.{Members, Cluster}
use Rattle.nxt_types.specs.Statements.{Statement, statements}
use Rattle.nxt_code.specs.CodeRules.{Program, program, is_bad_operand}
use Rattle.nxt_code.specs.CodeRules.{Broken as breaks_code}
use Rattle.nxt_code.specs.declared.fault.CodeFault.TheVariants.{Operand}
use Rattle.nxt_code.proofs.Laws.FitStatements.{all_fit}
use Rattle.nxt_rxe.specs.Files.{IsFile}
use Rattle.nxt_rxe.specs.declared.parts.Parts.{Parts}
use Rattle.nxt_model.specs.Footprint.{footprint, rows_for}
use Rattle.nxt_model.specs.Report.{setting}
use Rattle.nxt_model.specs.Values.{Value, elements, is_of, lists_in}
use Rattle.nxt_layout.specs.LayoutRules.{Broken, PassesPool}
use Rattle.nxt_layout.specs.Layouts.{FileLayout, IsLayout}
use Rattle.nxt_layout.specs.Start.{StartsAs, image_of, memory, file_rows, start_footprint}
use Rattle.nxt_layout.specs.declared.fault.LayoutFault.TheVariants.{PoolPassed}
use Rattle.nxt_layout.proofs.Laws.Spans.{accepted_spans}
use Rattle.nxt_space.proofs.Laws.OfFile.{members_of}
use Rattle.nxt_dumps.specs.Runnable.{IsRunnable}
use Rattle.nxt_dumps.specs.Tables.{HasTable}
use Rattle.nxt_dumps.proofs.Laws.Images.{runnable_image}
use Rattle.nxt_dumps.proofs.Lengths.Sums.{are_group}

-- a file counts its entries by 16 bits
pub few_entries : (bytes : List ℕ) (p : Parts) → IsFile bytes p → length p.toc < 2 ^ 16
few_entries bytes p file =
    let least : p.header.toc_count < 2 ^ 16 = file.fits.header 0 0 (omega arith) in
    omega (arith, least, file.counts.toc)

pool_holds : (p : Parts) (ss : Members) (vars : Value) → IsAccepted (Broken p) → StartsAs p ss vars → start_footprint p ss vars ≤ pool_size
pool_holds p ss vars accepted starts =
    elim (cases_lt pool_size (start_footprint p ss vars)) [
      | inl more ↦
          let passed : PassesPool p (start_footprint p ss vars) = record { shapes = ss; vars = vars; starts = starts; size_is = refl; passed = more } in
          absurd (accepted (PoolPassed (start_footprint p ss vars)) passed)
      | inr less ↦ less
    ]

same_rows : (a n : ℕ) → rows_for (rows_for a n) n ≡ rows_for a n
same_rows a n = omega arith

-- where no rule of layout is broken, the table is sound
pub has_table : (p : Parts) (ss : Members) (vars : Value) → length p.toc < 2 ^ 16 → IsAccepted (Broken p) → StartsAs p ss vars → HasTable (image_of p ss vars)
has_table p ss vars few accepted starts = record {
  few = few;
  spelled = starts.reads.spelled;
  spans = accepted_spans p ss accepted starts.shapes;
  values =
      ap (is_of (Cluster ss)) starts.reads.values
      ∙ are_group ss (elements vars) (members_of (memory p ss) 0 ss 0 (elements vars) starts.lists starts.reads.variables);
  fits = omega (arith, pool_holds p ss vars accepted starts, ap (λ rows. footprint p.header.static_size rows ss vars) (same_rows (file_rows p ss) (lists_in vars)));
}

-- so the program of an accepted file runs with right dumps
pub runnable_file : (p : Parts) (l : FileLayout) (made : IsLayout p l) → length p.toc < 2 ^ 16 → ((k : ℕ) (s : ℕ × Statement) → slice_get (statements p.code) k ≡ Some s → AreFit made.shapes s.1) → (effort : ℕ)
    → IsRunnable (setting (image_of p made.shapes made.vars) effort)
runnable_file p l made few code effort =
    runnable_image (image_of p made.shapes made.vars) effort (has_table p made.shapes made.vars few made.accepted made.starts) code

-- ---- code

-- where no rule of code is broken, the operands of all statements fit
pub operands_fit : (q : Program) → IsAccepted (breaks_code q) → (k : ℕ) (s : ℕ × Statement) → slice_get (statements q.words) k ≡ Some s → AreFit q.shapes s.1
operands_fit q accepted =
    all_fit q.shapes (length q.clumps) q.words (λ w k. false_from_ne_true (is_bad_operand q.shapes (length q.clumps) q.words w k) (λ bad. accepted (Operand w k) bad))

-- so the program of parts that break no rule runs with right dumps
pub runnable_parts : (p : Parts) (ss : Members) (vars : Value) → length p.toc < 2 ^ 16 → IsAccepted (Broken p) → IsAccepted (breaks_code (program ss p.clumps p.dependents p.code)) → StartsAs p ss vars → (effort : ℕ)
    → IsRunnable (setting (image_of p ss vars) effort)
runnable_parts p ss vars few layout code starts effort =
    runnable_image (image_of p ss vars) effort (has_table p ss vars few layout starts) (operands_fit (program ss p.clumps p.dependents p.code) code)
