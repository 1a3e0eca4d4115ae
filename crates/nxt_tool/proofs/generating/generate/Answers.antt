-- A generated text is neither too long nor refused.
use Rattle.std.proofs.Common.{◌≡◌, ◌≤◌, ◌∙◌, ℕ, List, arith, length, subst, sym}
use Rattle.std.proofs.lemmas.List.Elements.{All-same}
use Rattle.nxt_gen.specs.Generator.{generated_rows, generated_text}
use Rattle.nxt_gen.proofs.Laws.Short.{short}
use Rattle.nxt_tool.specs.Assembling.{HasTextCause, IsRefusedText}
use Rattle.nxt_tool.specs.declared.fault.AcceptFault.TheVariants.{Refused}
use Rattle.nxt_tool.specs.Runs.{IsPlain}
use Rattle.nxt_tool.proofs.Reports.Generated.{never_refused}
use Rattle.nxt_tool.proofs.PlainRows.{rows_plain}
use Rattle.nxt_tool.proofs.generating.generate.Goals as goal

pub tell_run-requires-clause-few : goal.tell_run-requires-clause-few
tell_run-requires-clause-few c =
    let same : c.as_slice.result.now ≡ generated_text c.args.number = c.as_slice.ensures ∙ c.in_ok-text.ensures in
    let few : length c.as_slice.result.now ≤ 262144 = subst (λ (l : List ℕ). length l ≤ 262144) (sym same) (short c.args.number) in
    omega (arith, few)

pub tell_run-requires-clause-plain : goal.tell_run-requires-clause-plain
tell_run-requires-clause-plain c = All-same IsPlain c.as_slice-2.result.now generated_rows (c.as_slice-2.ensures.value ∙ c.in_ok-rows.ensures) rows_plain

pub unreachable-requires : goal.unreachable-requires
unreachable-requires c =
    let same : c.as_slice.result.now ≡ generated_text c.args.number = c.as_slice.ensures ∙ c.in_ok-text.ensures in
    let r = c.in-Err-Refused.field-0-0 in
    let why : HasTextCause c.as_slice.result.now (Refused r) = subst (HasTextCause c.as_slice.result.now) c.in-Err-Refused.field-0-is c.in-Err-Refused.ensures in
    never_refused c.args.number r (subst (λ (t : List ℕ). IsRefusedText t r) same why)
