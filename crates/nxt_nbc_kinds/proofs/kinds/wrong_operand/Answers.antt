use Rattle.std.proofs.Common.{sym, ap, subst, ◌∙◌}
use Rattle.std.specs.Prelude.{IfOk}
use Rattle.std.proofs.lemmas.Result.{IfOk-weaker}
use Rattle.nxt_model.specs.Nbc.Forms.{Do, Form, Precedes, Follows}
use Rattle.nxt_model.specs.Nbc.NbcRules.{is_wrong_kind}
use Rattle.nxt_nbc_lines.specs.Firsts.{IsLeast}
use Rattle.nxt_nbc_lines.specs.Seen.{form_seen, label_seen, terms_seen}
use Rattle.nxt_nbc_names.specs.SourceSeen.{source_seen}
use Rattle.nxt_nbc_kinds.proofs.LeastOperands.{followed, least_same}
use Rattle.nxt_nbc_kinds.proofs.kinds.wrong_operand.Goals as goal

pub returns-in-Do : goal.returns-in-Do
returns-in-Do c =
    let same = ap (λ ts. Do (label_seen c.in-Do.field-0) c.in-Do.op c.in-Do.field-2 (terms_seen ts)) c.as_slice.ensures ∙ sym (ap form_seen c.in-Do.is) in
    subst (λ (f : Form). IfOk c.wrong_term.result (IsLeast (λ k. is_wrong_kind (source_seen c.args.source.now) c.args.line k f))) same
    (c.wrong_term.ensures (label_seen c.in-Do.field-0) c.in-Do.field-2)

pub returns-in-Precedes : goal.returns-in-Precedes
returns-in-Precedes c =
    let same = ap (λ ts. Precedes (terms_seen ts)) c.as_slice-in-Precedes.ensures ∙ sym (ap form_seen c.in-Precedes.is) in
    subst (λ (f : Form). IfOk c.wrong_thread.result (IsLeast (λ k. is_wrong_kind (source_seen c.args.source.now) c.args.line k f))) same c.wrong_thread.ensures

pub returns-in-Follows : goal.returns-in-Follows
returns-in-Follows c =
    let src = source_seen c.args.source.now in
    let ts = terms_seen c.as_slice-in-Follows.result.now in
    let same = ap (λ ts. Follows (terms_seen ts)) c.as_slice-in-Follows.ensures ∙ sym (ap form_seen c.in-Follows.is) in
    subst (λ (f : Form). IfOk c.wrong_thread-in-Follows.result (IsLeast (λ k. is_wrong_kind src c.args.line k f))) same
    (IfOk-weaker c.wrong_thread-in-Follows.result (IsLeast (λ k. is_wrong_kind src c.args.line k (Precedes ts))) (IsLeast (λ k. is_wrong_kind src c.args.line k (Follows ts)))
    (least_same (λ k. is_wrong_kind src c.args.line k (Precedes ts)) (λ k. is_wrong_kind src c.args.line k (Follows ts)) (followed src c.args.line ts))
    c.wrong_thread-in-Follows.ensures)
