use Rattle.std.proofs.Common.{ℕ, ◌≤◌, inl, inr, Option, Some, None, subst, ◌∙◌, arith}
use Rattle.std.specs.Prelude.{IfSome, IfNone}
use Rattle.std.proofs.lemmas.Bool.{cases_lt}
use Rattle.std.proofs.lemmas.Option.{IfSome_then}
use Rattle.nxt_heap.specs.Inside.Pool.{IsFit, IsHole}
use Rattle.nxt_heap.proofs.Searched.{none_below, fit_searched}
use Rattle.nxt_heap.proofs.Settled.{end_word, fit_from_end, no_hole_below}
use Rattle.nxt_heap.proofs.blocks.hole.Goals as goal
use Rattle.nxt_heap.proofs.blocks.hole.Goals.{then-at, else-at+then-bytes-at, else-at+else-bytes-at}

pub first_fit-requires-clause-word : goal.first_fit-requires-clause-word
first_fit-requires-clause-word c =
    let b = c.requires.blocks in
    elim c.if-at.branch [
      | then-at w ↦ rw w.start-is (end_word c.args.pool.now c.args.at.table c.args.at.base c.args.at.end b.is_pool b.end_is)
      | else-at+then-bytes-at w ↦ rw w.start-is b.searched.word
      | else-at+else-bytes-at w ↦ rw w.start-is b.word
    ]

pub returns-clause-some : goal.returns-clause-some
returns-clause-some c =
    let b = c.requires.blocks in
    elim c.if-at.branch [
      | then-at w ↦ IfSome_then c.first_fit.result c.first_fit.ensures.some (λ at fit.
          fit_from_end c.args.pool.now c.args.at.table c.args.at.base c.args.at.end c.args.bytes at b.is_pool b.end_is (w.if-at.true ∙ b.footprint_is) c.requires.some (subst (λ n. IsFit c.args.pool.now c.args.at.table n c.args.bytes at) w.start-is fit))
      | else-at+then-bytes-at w ↦ IfSome_then c.first_fit.result c.first_fit.ensures.some (λ at fit.
          fit_searched c.args.pool.now c.args.at.table c.args.at.base c.args.at.searched c.args.at.sought c.args.bytes at b.searched w.if-bytes-at.true (subst (λ n. IsFit c.args.pool.now c.args.at.table n c.args.bytes at) w.start-is fit))
      | else-at+else-bytes-at w ↦ subst (λ n. IfSome c.first_fit.result (IsFit c.args.pool.now c.args.at.table n c.args.bytes)) w.start-is c.first_fit.ensures.some
    ]

none_then : {X : Type 0} (r : Option X) (P Q : Type 0) → IfNone r P → (P → Q) → IfNone r Q
none_then None P Q p f = f p
none_then (Some x) P Q p f = p

pub returns-clause-none : goal.returns-clause-none
returns-clause-none c =
    let b = c.requires.blocks in
    elim c.if-at.branch [
      | then-at w ↦ none_then c.first_fit.result ((p : ℕ) → c.if-at.start ≤ p → IsHole c.args.pool.now c.args.at.table p c.args.bytes → ⊥) ((p : ℕ) → c.args.at.base ≤ p → IsHole c.args.pool.now c.args.at.table p c.args.bytes → ⊥) c.first_fit.ensures.none (λ h p low hole.
          elim (cases_lt p c.args.at.end) [
            | inl less ↦ no_hole_below c.args.pool.now c.args.at.table c.args.at.base c.args.at.end c.args.bytes p b.is_pool b.end_is (w.if-at.true ∙ b.footprint_is) c.requires.some low less hole
            | inr more ↦ h p (omega (arith, w.start-is, more)) hole
          ])
      | else-at+then-bytes-at w ↦ none_then c.first_fit.result ((p : ℕ) → c.if-at.start ≤ p → IsHole c.args.pool.now c.args.at.table p c.args.bytes → ⊥) ((p : ℕ) → c.args.at.base ≤ p → IsHole c.args.pool.now c.args.at.table p c.args.bytes → ⊥) c.first_fit.ensures.none (λ h p low hole.
          elim (cases_lt p c.args.at.searched) [
            | inl less ↦ none_below c.args.pool.now c.args.at.table c.args.at.base c.args.at.searched c.args.at.sought c.args.bytes p b.searched w.if-bytes-at.true low less hole
            | inr more ↦ h p (omega (arith, w.start-is, more)) hole
          ])
      | else-at+else-bytes-at w ↦ subst (λ n. IfNone c.first_fit.result ((p : ℕ) → n ≤ p → IsHole c.args.pool.now c.args.at.table p c.args.bytes → ⊥)) w.start-is c.first_fit.ensures.none
    ]
