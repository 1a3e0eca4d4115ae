-- As many empty mailboxes as turns are over.
use Rattle.std.proofs.Common.{◌≡◌, ◌≤◌, [], replicate, vec_capacity}
use Rattle.nxt_io.proofs.mailbox.empty_mailboxes.Given as goal

abbrev pub invariant-loop : goal.invariant-loop
invariant-loop l =
    record { empty : l.mailboxes.items ≡ replicate l.counter []; room : 20 ≤ vec_capacity l.mailboxes }
