-- The statement at which the one clump of an accepted program starts is fit.
use Rattle.std.proofs.Common.{◌≡◌, ℕ, List, [], ◌∷◌, length, ap, subst}
use Rattle.std.specs.Prelude.{slice_get}
use Rattle.nxt_types.specs.declared.lists.ClumpRec.{ClumpRec}
use Rattle.nxt_types.specs.Shapes.{Members}
use Rattle.nxt_types.specs.Statements.{Statement, IsStatement}
use Rattle.nxt_code.specs.CodeRules.{program, IsFit}
use Rattle.nxt_types.specs.OperandRules.{AreFit}

pub fit_at_start : {ss : Members} {cs : List ClumpRec} {ds words kept : List ℕ} {s : Statement} {n : ℕ} (r : ClumpRec) → cs ≡ r ∷ [] → IsFit (program ss cs ds words) → kept ≡ words → IsStatement kept r.start s n → AreFit ss s
fit_at_start {ss} {cs} {ds} {words} {kept} {s} {n} r is fit same there =
    let one = fit.each r.start s n (fit.starts 0 r (ap (λ xs. slice_get xs 0) is)) (subst (λ ws. IsStatement ws r.start s n) same there) in
    record { clumps = length cs; fit = λ k l. one.operands k l }
