use Rattle.nxt_script.proofs.NextRow.{ok_next, err_next}
use Rattle.nxt_script.proofs.script.Script.next_row.Goals as goal

pub returns-in-Ok-clause-next : goal.returns-in-Ok-clause-next
returns-in-Ok-clause-next g c =
    let finds = c.in-Ok.ensures.finds in
    rw (← c.self.view_is, c.in-Started.is) (ok_next c.in-Started.text c.next_row.new.self finds.0 _ _ finds.1 c.in-Ok.row finds.3)

pub returns-in-Err-clause-next : goal.returns-in-Err-clause-next
returns-in-Err-clause-next g c =
    let finds = c.in-Err.ensures.finds in
    rw (← c.self.view_is, c.in-Started.is) (err_next c.in-Started.text c.next_row.new.self finds.0 _ _ finds.1 c.in-Err.fault finds.3)

pub returns-in-Ok-clause-over : goal.returns-in-Ok-clause-over
returns-in-Ok-clause-over g c =
    let finds = c.in-Ok.ensures.finds in
    rw (← c.self.view_is, c.in-Started.is) (λ ended. ((c.in-Ok.ensures.over ended).0, (λ no. cc), (finds.1.still ended).0))
