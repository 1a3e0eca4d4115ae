-- The bytes of a region with others from a place on.
use Rattle.std.proofs.Common.{◌+◌, ◌≤◌, ◌∙◌, length, length-set, sym, ap, subst}
use Rattle.nxt_facts.proofs.PutAt.{length-put_at}
use Rattle.nxt_types.specs.Pool.{round4}
use Rattle.nxt_heap.specs.Lists.{Lists, base_of, bytes_at}
use Rattle.nxt_heap.proofs.Laws.Front.{front_stays}
use Rattle.nxt_values.specs.declared.reading.Region.TheVariants.{Static, Row}
use Rattle.nxt_values.specs.Regions.{bytes_in}
use Rattle.nxt_values.specs.Writes.{with_bytes, put}
use Rattle.nxt_values.proofs.Fill.Bytes.{put-is}
use Rattle.nxt_values.proofs.writing.set_bytes.Goals as goal

pub returns-in-Static-clause-lists : goal.returns-in-Static-clause-lists
returns-in-Static-clause-lists c =
    let h = c.args.heap.now.lists in
    let bs = c.args.bytes.now in
    let fits : c.args.at + length bs ≤ length h.static_bytes = subst (λ region. c.args.at + length bs ≤ length (bytes_in h region)) c.in-Static.is c.requires.within in
    c.set_static.ensures.lists
    ∙ ap (with_bytes h Static) (put-is bs c.args.at h.static_bytes fits)
    ∙ ap (λ region. with_bytes h region (put bs c.args.at (bytes_in h region))) (sym c.in-Static.is)

pub returns-in-Row-clause-lists : goal.returns-in-Row-clause-lists
returns-in-Row-clause-lists c =
    let h = c.args.heap.now.lists in
    let bs = c.args.bytes.now in
    let row = c.in-Row.row in
    let fits : c.args.at + length bs ≤ length (bytes_at h row) = subst (λ region. c.args.at + length bs ≤ length (bytes_in h region)) c.in-Row.is c.requires.within in
    c.write.ensures.lists
    ∙ ap (with_bytes h (Row row)) (put-is bs c.args.at (bytes_at h row) fits)
    ∙ ap (λ region. with_bytes h region (put bs c.args.at (bytes_in h region))) (sym c.in-Row.is)

pub returns-in-Static-clause-front : goal.returns-in-Static-clause-front
returns-in-Static-clause-front c =
    let h = c.args.heap.now.lists in
    let bs = c.args.bytes.now in
    let fits : c.args.at + length bs ≤ length h.static_bytes = subst (λ region. c.args.at + length bs ≤ length (bytes_in h region)) c.in-Static.is c.requires.within in
    let is = c.set_static.ensures.lists in
    front_stays c.args.heap.now c.set_static.new.self (ap base_of is ∙ ap round4 (length-put_at c.args.at bs h.static_bytes fits)) (ap (λ (h : Lists). length h.by_row) is) c.set_static.ensures.stay

pub returns-in-Row-clause-front : goal.returns-in-Row-clause-front
returns-in-Row-clause-front c =
    let is = c.write.ensures.lists in
    front_stays c.args.heap.now c.write.new.self (ap base_of is) (ap (λ (h : Lists). length h.by_row) is ∙ length-set c.args.heap.now.lists.by_row c.in-Row.row _) c.write.ensures.stay
