-- The entry is one of the table's.
use Rattle.std.proofs.Common.{◌≡◌, ◌+◌, take, ap, ◌∙◌, arith}
use Rattle.std.specs.List.{sum_by}
use Rattle.nxt_types.specs.Calls.{cluster_fields}
use Rattle.nxt_sys.specs.Fields.{width}
use Rattle.nxt_sys.proofs.Laws.Named.{entry, entry_small}
use Rattle.nxt_sys.proofs.fields.entry_of.Goals as goal

before : (c : goal.After-widths-before) → c.widths-before.result ≡ sum_by width (take c.args.k (cluster_fields c.args.call))
before c = c.widths-before.ensures ∙ ap (λ fs. sum_by width (take c.args.k fs)) c.fields.ensures

pub overflow_add-result : goal.overflow_add-result
overflow_add-result c = let h = c.requires in omega (arith, before c, entry_small h.0 c.args.call c.args.cluster c.args.k h.1 h.2)

pub overflow_add-result-2 : goal.overflow_add-result-2
overflow_add-result-2 c = let h = c.requires in omega (arith, before c, entry_small h.0 c.args.call c.args.cluster c.args.k h.1 h.2)

pub returns : goal.returns
returns c = λ s f h. entry s c.args.call c.args.cluster c.args.k (c.args.cluster + 1 + c.widths-before.result) f h (omega (arith, before c))
