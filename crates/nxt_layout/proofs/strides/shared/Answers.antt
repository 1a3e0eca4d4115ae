-- Where as many are left, all are.
use Rattle.std.proofs.Common.{rules, ◌≡◌, length, ap, sym, ◌∙◌}
use Rattle.std.specs.Rc.{rc_slice_items}
use Rattle.nxt_layout.proofs.Dope.Through.{filter_whole}
use Rattle.nxt_layout.proofs.strides.shared.Goals as goal

pub returns-in_ok-clone : goal.returns-in_ok-clone
returns-in_ok-clone c p e =
    let rows = rc_slice_items c.args.rows.now in
    let long : length c.args.some.items ≡ length rows = search rules in
    c.in_ok-clone.ensures.cases ∙ sym (e ∙ filter_whole p rows (sym (ap length e) ∙ long))
