use Rattle.std.proofs.Common.{sym}
use Rattle.nxt_model.proofs.MessageForm.{kept_of}
use Rattle.nxt_model.proofs.message.Message.new.Goals as goal

pub invariant_of-result : goal.invariant_of-result
invariant_of-result c =
    kept_of c.args.text.now c.copy_from_slice.new.self c.if-size-eq0.false c.if-size-gt-LONGEST.false
    c.if-text-size-ne0.false (sym c.copy_from_slice.ensures.after)
