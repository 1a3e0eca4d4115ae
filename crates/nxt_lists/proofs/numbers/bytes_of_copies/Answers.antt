-- One copy more, or bytes that are all alike.
use Rattle.std.proofs.Common.{◌≡◌, ◌*◌, ◌%◌, ◌∙◌, sym, ap, ap₂, subst, replicate, get_or}
use Rattle.nxt_types.specs.Arithmetic.{leaf_size}
use Rattle.nxt_lists.specs.InBytes.{AreStored}
use Rattle.nxt_lists.proofs.NumberSections.{none_stored, copy_stored, copies_filled}
use Rattle.nxt_lists.proofs.numbers.bytes_of_copies.Goals as goal

pub loop-init : goal.loop-init
loop-init c v is = none_stored c.args.kind c.new-bytes.result c.new-bytes.ensures

pub loop-preserved : goal.loop-preserved
loop-preserved c v is =
    copy_stored c.args.kind c.loop.bytes c.push_number.new.into c.loop.counter c.args.word v is (c.loop.invariant v is) c.in_ok-push_number.ensures

pub returns-then-are_alike : goal.returns-then-are_alike
returns-then-are_alike c v is =
    let k = c.args.kind in
    let w = c.args.word in
    let filled : c.from_vec.result ≡ replicate (c.args.count * leaf_size k) (w % 256) =
    c.from_vec.ensures ∙ c.in_ok-vec.ensures.items_if_clones_equal (λ b same. same) ∙ ap₂ (λ n b. replicate (c.args.count * n) b) c.leaf_size.ensures (ap (λ bs. get_or bs 0 0) c.to_le_bytes.ensures) in
    subst
    (λ bytes. AreStored k bytes (replicate c.args.count v))
    (sym filled)
    (copies_filled k w c.args.count v (c.are_alike.ensures c.if-are_alike.true) is)
