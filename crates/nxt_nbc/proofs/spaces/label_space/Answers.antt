use Rattle.std.proofs.Common.{◌+◌, ◌-◌, ◌^◌, min, ◌∙◌, List, [], ap, drop, length, map}
use Rattle.std.proofs.lemmas.List.{at_drop_more, drop_all}
use Rattle.nxt_model.specs.Nbc.Text.{LabelAt}
use Rattle.nxt_model.specs.Nbc.NbcRules.{Declared, is_taken}
use Rattle.nxt_nbc_names.specs.LabelsSeen.{label_seen}
use Rattle.nxt_nbc_names.specs.SourceSeen.{source_seen}
use Rattle.nxt_nbc.specs.Spaces.{least_again}
use Rattle.nxt_nbc_names.specs.declared.labels.Label.{Label}
use Rattle.nxt_nbc.proofs.SpaceLoops.{none_read, name_read, all_read}
use Rattle.nxt_nbc.proofs.spaces.label_space.Goals as goal

abbrev named : List LabelAt → List Declared
named ls = map (λ x. (x.line, x.name)) ls

pub loop-label-init : goal.loop-label-init
loop-label-init c =
    none_read (is_taken (source_seen c.args.source.now)) (named (map label_seen c.as_slice-label-items.result.now)) c.new-space.ensures.names c.new-space.ensures.twice

pub loop-label-preserved : goal.loop-label-preserved
loop-label-preserved c =
    let items = c.as_slice-label-items.result.now in
    let i = c.loop-label.label-index in
    name_read _ _ (named (map label_seen (drop (i + 1) items))) c.loop-label.invariant
    (at_drop_more (λ (ls : List Label). named (map label_seen ls)) items i _ c.loop-label-test.true)
    c.in_ok-declare.ensures.names c.in_ok-declare.ensures.twice

pub returns : goal.returns
returns c =
    let items = c.as_slice-label-items.result.now in
    let all = all_read c.loop-label.invariant (ap (λ ls. named (map label_seen ls)) (drop_all c.loop-label.label-index items c.loop-label-test.false)) in
    let is = c.as_slice-label-items.ensures ∙ c.in_ok-labels.ensures in
    record {
      line = c.declarations.ensures.line ∙ all.0 ∙ ap (λ ls. least_again (is_taken (source_seen c.args.source.now)) [] (named ls)) is;
      held = c.declarations.ensures.held ∙ ap (λ n. min n (2 ^ 64 - 1)) (all.1 ∙ ap (λ ls. length (named ls)) is);
    }
