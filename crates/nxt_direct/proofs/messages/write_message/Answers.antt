-- A telegram whose message is in order.
use Rattle.std.proofs.Common.{◌≡◌, ◌≤◌, ◌+◌, ◌-◌, not, nat_lt, true, false, Some, Err, length, slice_index, take, drop, sym, ap, ◌∙◌, arith, rules}
use Rattle.std.proofs.lemmas.List.{take_rest}
use Rattle.std.proofs.lemmas.Grind.{common_steps}
use Rattle.nxt_model.specs.Messages.{is_message}
use Rattle.nxt_direct.specs.Outcomes.{verdict, verdict_of}
use Rattle.nxt_direct.proofs.Refusals.{refused, passed, some_where, write_message-in_order}
use Rattle.nxt_direct.proofs.messages.write_message.Goals as goal

pub returns-in_err-refuse_unless-3-clause-verdict : goal.returns-in_err-refuse_unless-3-clause-verdict
returns-in_err-refuse_unless-3-clause-verdict c =
    let long : 4 ≤ length c.args.bytes.now = grind (arith, common_steps) in
    let whole : length c.args.bytes.now ≡ 4 + slice_index c.args.bytes.now 3 = grind (arith, common_steps) in
    let message : is_message (drop 4 c.args.bytes.now) ≡ true = grind (arith, common_steps) in
    let idle : not c.args.active ≡ true = grind (arith, common_steps) in
    let said : verdict c.from_residual-in_err-refuse_unless-3.result ≡ Err 0xEC = grind (arith, common_steps) in
    said
    ∙ sym (ap verdict_of
    (write_message-in_order c.args.bytes.now c.args.active c.args.io.now long whole message ∙ refused _ _ _ idle))

pub returns-in_err-refuse_unless-4-clause-verdict : goal.returns-in_err-refuse_unless-4-clause-verdict
returns-in_err-refuse_unless-4-clause-verdict c =
    let long : 4 ≤ length c.args.bytes.now = grind (arith, common_steps) in
    let whole : length c.args.bytes.now ≡ 4 + slice_index c.args.bytes.now 3 = grind (arith, common_steps) in
    let message : is_message (drop 4 c.args.bytes.now) ≡ true = grind (arith, common_steps) in
    let runs : not c.args.active ≡ false = grind (arith, common_steps) in
    let outside : nat_lt 19 (slice_index c.args.bytes.now 2) ≡ true = grind (arith, common_steps) in
    let said : verdict c.from_residual-in_err-refuse_unless-4.result ≡ Err 0xEE = grind (arith, common_steps) in
    said
    ∙ sym (ap verdict_of
    (write_message-in_order c.args.bytes.now c.args.active c.args.io.now long whole message
    ∙ passed _ _ _ runs ∙ refused _ _ _ outside))

pub returns-clause-verdict : goal.returns-clause-verdict
returns-clause-verdict c =
    let long : 4 ≤ length c.args.bytes.now = search rules in
    let whole : length c.args.bytes.now ≡ 4 + slice_index c.args.bytes.now 3 = search rules in
    let made : c.new.result ≡ Some c.in_ok-message.message = search rules in
    let tail : take (length c.args.bytes.now - 4) (drop 4 c.args.bytes.now) ≡ drop 4 c.args.bytes.now = take_rest c.args.bytes.now 4 in
    let message : is_message (drop 4 c.args.bytes.now) ≡ true =
    rw tail at (some_where (is_message (take (length c.args.bytes.now - 4) (drop 4 c.args.bytes.now))) (take (length c.args.bytes.now - 4) (drop 4 c.args.bytes.now)) c.in_ok-message.message c.new.result c.new.ensures made) in
    let runs : not c.args.active ≡ false = search rules in
    let inside : nat_lt 19 (slice_index c.args.bytes.now 2) ≡ false = search rules in
    sym (ap verdict_of
    (write_message-in_order c.args.bytes.now c.args.active c.args.io.now long whole message
    ∙ passed _ _ _ runs ∙ passed _ _ _ inside))
