-- Spans that are in line share no byte.
use Rattle.std.proofs.Common.{◌++◌, ◌∙◌, sym, ap, subst}
use Rattle.std.specs.List.Sorted.{IsPermutation}
use Rattle.nxt_layout.specs.Inside.RowPasses.{follow}
use Rattle.nxt_layout.proofs.Dope.Spans.{in_line}
use Rattle.nxt_layout.proofs.spans.lie_apart.Goals as goal

pub returns : goal.returns
returns c apart =
    let spans = c.args.spans.now in
    let sorted = c.sort_by_key.new.self.items in
    let copied = c.in_ok-extend_from_slice.ensures.items ∙ ap (λ ss. ss ++ spans) c.new-sorted.ensures.items in
    in_line spans sorted (subst (λ ss. IsPermutation ss sorted) copied c.in_ok-sort_by_key.ensures.permutation) c.requires
    (sym (c.are_in_line.ensures ∙ ap (follow 0) c.as_slice.ensures.value) ∙ apart)
