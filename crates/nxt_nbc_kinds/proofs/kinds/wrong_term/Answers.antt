use Rattle.std.proofs.Common.{◌≡◌, false, ◌&&◌, nat_lt, length, refl, ap, below_more, not, ◌∙◌, arith}
use Rattle.nxt_types.specs.Opcodes.{arity, takes}
use Rattle.nxt_types.specs.OperandRules.{has_kind}
use Rattle.nxt_model.specs.Nbc.Forms.{Do}
use Rattle.nxt_model.specs.Nbc.NbcRules.{has_class, is_wrong_kind, is_wrong_term, sorts_of}
use Rattle.nxt_nbc_lines.specs.Seen.{term_seen, terms_seen}
use Rattle.nxt_nbc_names.specs.SourceSeen.{source_seen}
use Rattle.nxt_nbc_kinds.specs.OperandsSeen.{operands_seen}
use Rattle.nxt_nbc_kinds.proofs.LeastOperands.{count_operands, least_at, least_past, wrong_at, wrong_past}
use Rattle.nxt_nbc_kinds.proofs.kinds.wrong_term.Goals as goal
use Rattle.nxt_nbc_kinds.proofs.kinds.wrong_term.Goals.{then-not-branch-via-then-not-branch, then-not-branch-via-else-not-branch+then-not-has_kind}

pub has_kind-requires-clause-within : goal.has_kind-requires-clause-within
has_kind-requires-clause-within c =
    let source = c.args.source.now in
    let is = ap (operands_seen source.structs) c.as_slice-operands.ensures ∙ c.in_ok-all.ensures in
    let count = count_operands (source_seen source) c.args.line c.args.op c.args.terms.now c.requires.takes source.structs c.as_slice-operands.result.now is in
    omega arith

pub has_kind-requires-clause-takes : goal.has_kind-requires-clause-takes
has_kind-requires-clause-takes c =
    let source = c.args.source.now in
    let is = ap (operands_seen source.structs) c.as_slice-operands.ensures ∙ c.in_ok-all.ensures in
    ap (takes (arity c.args.op)) (count_operands (source_seen source) c.args.line c.args.op c.args.terms.now c.requires.takes source.structs c.as_slice-operands.result.now is)
    ∙ c.requires.takes

pub returns-then-not-branch : goal.returns-then-not-branch
returns-then-not-branch c =
    λ label cmp.
    let source = c.args.source.now in
    let src = source_seen source in
    let line = c.args.line in
    let op = c.args.op in
    let terms = c.args.terms.now in
    let k = c.loop-k.k in
    let term = c.index-terms-k.result in
    let classed = c.in_ok-has_class.ensures ∙ ap (λ class. has_class src line class (term_seen term)) c.class.ensures in
    let is = ap (operands_seen source.structs) c.as_slice-operands.ensures ∙ c.in_ok-all.ensures in
    least_at (λ k. is_wrong_kind src line k (Do label op cmp (terms_seen terms))) refl k c.loop-k.invariant
    (elim c.then-not-branch.branch [
      | then-not-branch-via-then-not-branch w ↦
          wrong_at src line op terms c.requires.takes k term c.in_ok-has_class.field-0 (has_kind 1 op (sorts_of src line op (terms_seen terms)) k) c.loop-k-test.true c.index-terms-k.is classed refl
          ∙ ap (λ b. not (b && has_kind 1 op (sorts_of src line op (terms_seen terms)) k)) w.if-not-branch.true
      | then-not-branch-via-else-not-branch+then-not-has_kind w ↦
          wrong_at src line op terms c.requires.takes k term c.in_ok-has_class.field-0 w.has_kind.result c.loop-k-test.true c.index-terms-k.is classed
          (w.has_kind.ensures ∙ ap (λ os. has_kind 1 op os k) is)
          ∙ ap (λ b. not (b && w.has_kind.result)) w.if-not-branch.false
          ∙ ap not w.if-not-has_kind.true
    ])

pub loop-k-preserved : goal.loop-k-preserved
loop-k-preserved c =
    let source = c.args.source.now in
    let src = source_seen source in
    let line = c.args.line in
    let op = c.args.op in
    let terms = c.args.terms.now in
    let k = c.loop-k.k in
    let term = c.index-terms-k.result in
    let classed = c.in_ok-has_class.ensures ∙ ap (λ class. has_class src line class (term_seen term)) c.class.ensures in
    let is = ap (operands_seen source.structs) c.as_slice-operands.ensures ∙ c.in_ok-all.ensures in
    below_more (λ j. (nat_lt j (length (terms_seen terms)) && is_wrong_term src line op (terms_seen terms) j) ≡ false) k c.loop-k.invariant
    (wrong_at src line op terms c.requires.takes k term c.in_ok-has_class.field-0 c.has_kind.result c.loop-k-test.true c.index-terms-k.is classed
    (c.has_kind.ensures ∙ ap (λ os. has_kind 1 op os k) is)
    ∙ ap (λ b. not (b && c.has_kind.result)) c.if-not-branch.false
    ∙ ap not c.if-not-has_kind.false)

pub returns : goal.returns
returns c =
    λ label cmp.
    let src = source_seen c.args.source.now in
    let terms = c.args.terms.now in
    least_past (λ k. is_wrong_kind src c.args.line k (Do label c.args.op cmp (terms_seen terms))) refl c.loop-k.k c.loop-k.invariant
    (λ j over. wrong_past src c.args.line c.args.op terms c.requires.takes j (omega (arith, over)))
