use Rattle.std.proofs.Common.{◌≡◌, Result, Ok, Err, map, sym, ap, subst, ◌∙◌}
use Rattle.std.specs.Result.{IfErr, IsErrAnd}
use Rattle.nxt_model.specs.Nbc.Forms.{Formed}
use Rattle.nxt_model.specs.Nbc.Text.{Source, program_of, source_of}
use Rattle.nxt_nbc_lines.specs.Firsts.{Ascends, HasForms}
use Rattle.nxt_nbc_lines.specs.declared.fault.NbcFault.{NbcFault}
use Rattle.nxt_nbc_lines.specs.declared.fault.NbcFault.TheVariants.{NoMemory}
use Rattle.nxt_nbc_lines.specs.Seen.{formed_seen, line_form_seen}
use Rattle.nxt_nbc_lines.specs.Whole.{BlocksAreWhole}
use Rattle.nxt_nbc_lines.proofs.Laws.Refused.{accepted}
use Rattle.nxt_nbc_lines.proofs.Laws.Ascending.{has_ascending}
use Rattle.nxt_nbc_lines.proofs.Laws.Whole.{blocks_whole, has_lines}
use Rattle.nxt_nbc_program.specs.Fits.{SourceFits}
use Rattle.nxt_nbc_program.proofs.Laws.Fits.{source_fits}
use Rattle.nxt_nbc.specs.Faults.{IsRefused}
use Rattle.nxt_nbc.proofs.CountsTold.{few_blocks}
use Rattle.nxt_nbc.proofs.text.parse.Goals as goal

pub of-requires : goal.of-requires
of-requires c =
    let text = c.args.text.now in
    let ts = c.as_slice.result.now in
    let fd = formed_seen c.in_ok-formed.formed in
    let has : HasForms text ts fd = (c.in_ok-tokens.ensures.tokens ∙ ap Ok (sym c.as_slice.ensures), c.in_ok-formed.ensures) in
    subst (λ ls. Ascends 0 (map line_form_seen ls)) (sym c.as_slice-2.ensures) (has_ascending text ts fd has)

pub check_rules-requires-clause-lines : goal.check_rules-requires-clause-lines
check_rules-requires-clause-lines c =
    let text = c.args.text.now in
    let ts = c.as_slice.result.now in
    let fd = formed_seen c.in_ok-formed.formed in
    let has : HasForms text ts fd = (c.in_ok-tokens.ensures.tokens ∙ ap Ok (sym c.as_slice.ensures), c.in_ok-formed.ensures) in
    has_lines text ts fd c.requires has

pub program_of-requires-clause-fits : goal.program_of-requires-clause-fits
program_of-requires-clause-fits c =
    let fd = formed_seen c.in_ok-formed.formed in
    let same = c.in_ok-source.ensures ∙ ap (λ ls. source_of (map line_form_seen ls)) c.as_slice-2.ensures in
    let text = c.args.text.now in
    let ts = c.as_slice.result.now in
    let has : HasForms text ts fd = (c.in_ok-tokens.ensures.tokens ∙ ap Ok (sym c.as_slice.ensures), c.in_ok-formed.ensures) in
    subst SourceFits (sym same) (source_fits fd.forms (has_lines text ts fd c.requires has) (few_blocks fd c.in_ok-check_rules.ensures.kept))

pub program_of-requires-clause-whole : goal.program_of-requires-clause-whole
program_of-requires-clause-whole c =
    let fd = formed_seen c.in_ok-formed.formed in
    let same = c.in_ok-source.ensures ∙ ap (λ ls. source_of (map line_form_seen ls)) c.as_slice-2.ensures in
    let text = c.args.text.now in
    let ts = c.as_slice.result.now in
    let has : HasForms text ts fd = (c.in_ok-tokens.ensures.tokens ∙ ap Ok (sym c.as_slice.ensures), c.in_ok-formed.ensures) in
    subst BlocksAreWhole (sym (ap (λ (s : Source). s.blocks) same)) (blocks_whole fd.forms (has_lines text ts fd c.requires has))

pub returns-clause-parsed : goal.returns-clause-parsed
returns-clause-parsed c =
    let fd = formed_seen c.in_ok-formed.formed in
    let text = c.args.text.now in
    let ts = c.as_slice.result.now in
    let has : HasForms text ts fd = (c.in_ok-tokens.ensures.tokens ∙ ap Ok (sym c.as_slice.ensures), c.in_ok-formed.ensures) in
    let all = accepted text ts fd has c.in_ok-check_rules.ensures.kept in
    let same = c.in_ok-source.ensures ∙ ap (λ ls. source_of (map line_form_seen ls)) c.as_slice-2.ensures in
    record {
      accepted = all.0;
      tokens = (ts, has.0, c.in_ok-program_of.ensures ∙ ap program_of same ∙ ap (λ (f : Formed). program_of (source_of f.forms)) all.1);
    }

-- an error that a fault gives
from_error : {T : Type 0} (r : Result T NbcFault) (G P : NbcFault → Type 0) → IsErrAnd r G → ((f : NbcFault) → G f → P f) → IfErr r P
from_error (Ok x) G P h given = tt
from_error (Err f) G P h given = given f h

pub returns-in_err-check_rules-clause-refused : goal.returns-in_err-check_rules-clause-refused
returns-in_err-check_rules-clause-refused c =
    let text = c.args.text.now in
    let ts = c.as_slice.result.now in
    let fd = formed_seen c.in_ok-formed.formed in
    let has : HasForms text ts fd = (c.in_ok-tokens.ensures.tokens ∙ ap Ok (sym c.as_slice.ensures), c.in_ok-formed.ensures) in
    let refused = c.in_err-check_rules.ensures.refused text ts has in
    from_error c.from_residual-in_err-check_rules.result (λ f. f ≡ c.in_err-check_rules.field-0.0) (IsRefused text) c.from_residual-in_err-check_rules.ensures.1
    (λ f e. subst (IsRefused text) (sym e) refused)

pub returns-in_err-program_of-clause-refused : goal.returns-in_err-program_of-clause-refused
returns-in_err-program_of-clause-refused c =
    from_error c.from_residual-in_err-program_of.result (λ f. f ≡ NoMemory) (IsRefused c.args.text.now) c.from_residual-in_err-program_of.ensures.1
    (λ f e. subst (IsRefused c.args.text.now) (sym e) tt)
