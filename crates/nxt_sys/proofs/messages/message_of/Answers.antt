-- A zero stands behind the body.
use Rattle.std.proofs.Common.{◌+◌, length, take, drop, replicate, ◌++◌, ap, ◌∙◌}
use Rattle.nxt_sys.proofs.Mailboxes.{front_of_zeros, made}
use Rattle.nxt_sys.proofs.messages.message_of.Goals as goal

pub returns : goal.returns
returns c =
    let b = c.args.body.now in
    let less = c.if-size-ge-LONGEST.false in
    let t = take (length b + 1) (c.copy_from_slice.new.self ++ drop (length b) (replicate 59 0)) in
    let is = ap (λ xs. take (length b + 1) (xs ++ drop (length b) (replicate 59 0))) c.copy_from_slice.ensures.after ∙ front_of_zeros b less in
    made b t c.new.result less is c.new.ensures
