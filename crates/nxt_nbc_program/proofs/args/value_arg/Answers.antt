use Rattle.std.proofs.Common.{◌≡◌, ◌∙◌, false, ◌&&◌, ap, sym}
use Rattle.std.proofs.lemmas.Bool.{and_left, and_right}
use Rattle.std.proofs.lemmas.Result.{IfOk-weaker}
use Rattle.nxt_model.specs.Nbc.Text.{arg_of, denoted_arg, is_left_out}
use Rattle.nxt_nbc_lines.specs.Seen.{term_seen}
use Rattle.nxt_nbc_names.specs.DenotedSeen.{denoted_seen}
use Rattle.nxt_nbc_names.specs.SourceSeen.{source_seen}
use Rattle.nxt_nbc_program.specs.Classes.{is_optional}
use Rattle.nxt_nbc_program.proofs.ArgLists.{arg_denoted, arg_left}
use Rattle.nxt_nbc_program.proofs.Laws.Fits.{denoted_fits}
use Rattle.nxt_nbc_program.proofs.args.value_arg.Goals as goal
use Rattle.nxt_nbc_program.proofs.args.value_arg.Goals.{else-is_optional-via-then-is_optional+else-is_left_out, else-is_optional-via-else-is_optional}

pub denoted_arg-requires : goal.denoted_arg-requires
denoted_arg-requires c =
    denoted_fits (source_seen c.args.source.now) c.requires c.args.source.now.structs c.in_ok-denoted.field-0 c.args.line (term_seen c.args.term.now)
    c.in_ok-denoted.ensures

pub returns-then-is_left_out : goal.returns-then-is_left_out
returns-then-is_left_out c = λ ls not_offset.
    arg_left (source_seen c.args.source.now) ls c.args.line (term_seen c.args.term.now) c.args.class (sym c.is_optional.ensures ∙ c.if-is_optional.true)
    (sym c.is_left_out.ensures ∙ c.if-is_left_out.true)

pub returns : goal.returns
returns c = λ ls not_offset.
    let src = source_seen c.args.source.now in
    let t = term_seen c.args.term.now in
    let class = c.args.class in
    let stays : (is_optional class && is_left_out src c.args.line t) ≡ false =
    elim c.else-is_optional.branch [
      | else-is_optional-via-then-is_optional+else-is_left_out w ↦
          and_right (is_optional class) (is_left_out src c.args.line t) (sym w.is_left_out.ensures ∙ w.if-is_left_out.false)
      | else-is_optional-via-else-is_optional w ↦
          and_left (is_optional class) (is_left_out src c.args.line t) (sym c.is_optional.ensures ∙ w.if-is_optional.false)
    ] in
    let found = denoted_seen c.args.source.now.structs c.in_ok-denoted.field-0 in
    IfOk-weaker c.denoted_arg.result (λ x. x ≡ denoted_arg class found) (λ x. x ≡ arg_of src ls c.args.line class t)
    (λ x e. e ∙ ap (denoted_arg class) c.in_ok-denoted.ensures ∙ arg_denoted src ls c.args.line t class not_offset stays)
    (c.denoted_arg.ensures c.args.source.now.structs)
