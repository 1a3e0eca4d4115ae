use Rattle.std.proofs.Common.{◌∙◌, ◌++◌, [], ◌∷◌, ◌≤◌, ap, length, take}
use Rattle.std.proofs.lemmas.List.{length-map, take_all}
use Rattle.nxt_types.specs.Opcodes.{arity, takes}
use Rattle.nxt_model.specs.Nbc.Text.{arg_of}
use Rattle.nxt_nbc_lines.specs.Seen.{term_seen, terms_seen}
use Rattle.nxt_nbc_names.specs.SourceSeen.{source_seen}
use Rattle.nxt_nbc_program.proofs.ArgLists.{args_by, args_more, args_all}
use Rattle.nxt_nbc_program.proofs.args.args_of.Goals as goal

pub loop-k-preserved : goal.loop-k-preserved
loop-k-preserved c =
    let src = source_seen c.args.source.now in
    let ls = c.args.labels.now in
    let i = c.loop-k.k in
    c.in_ok-push.ensures.ok
    ∙ ap (λ xs. xs ++ c.in_ok-arg.arg ∷ []) c.loop-k.invariant
    ∙ ap (λ x. args_by src ls c.args.line c.args.op 0 (terms_seen (take i c.args.terms.now)) ++ x ∷ [])
    (c.in_ok-arg.ensures ∙ ap (λ d. arg_of src ls c.args.line d (term_seen c.index-terms-k.result)) c.class.ensures)
    ∙ args_more src ls c.args.line c.args.op c.args.terms.now i c.index-terms-k.result c.loop-k-test.true c.index-terms-k.is

pub returns : goal.returns
returns c =
    let src = source_seen c.args.source.now in
    let ts = c.args.terms.now in
    let all : length ts ≤ c.loop-k.k = c.loop-k-test.false in
    c.loop-k.invariant
    ∙ ap (λ us. args_by src c.args.labels.now c.args.line c.args.op 0 (terms_seen us)) (take_all c.loop-k.k ts all)
    ∙ args_all src c.args.labels.now c.args.line c.args.op (terms_seen ts) (ap (takes (arity c.args.op)) (length-map ts term_seen) ∙ c.requires.takes)
