use Rattle.std.proofs.Common.{rules, ◌≡◌, ◌∷◌, arith, ap, ◌∙◌, sym, refl}
use Rattle.nxt_rows.specs.Rows.{dope_row, link_of, free_rows}
use Rattle.nxt_rows.proofs.Laws.FreeRows.{SameBut, free_rows-none, free_rows-front, free_rows-taken, IsFreeChain-tail}
use Rattle.nxt_rows.proofs.take_row.Goals as goal

pub returns-then-first-eq0-clause-none : goal.returns-then-first-eq0-clause-none
returns-then-first-eq0-clause-none c =
    let none : link_of c.args.pool.now c.args.table 0 ≡ 0 = ap (λ r. r.link) (sym c.get-first.ensures) ∙ c.if-first-eq0.true in
    (λ e. free_rows-none c.args.pool.now c.args.table none, λ e. refl)

pub get-next-requires : goal.get-next-requires
get-next-requires c =
    let within = free_rows-front c.args.pool.now c.args.table c.get-first.result.link c.requires.table c.requires.chain
    (ap (λ r. r.link) (sym c.get-first.ensures)) (omega (arith, c.if-first-eq0.false)) in
    omega (arith, c.requires.table.within)

pub set-requires-2 : goal.set-requires-2
set-requires-2 c =
    let within = free_rows-front c.args.pool.now c.args.table c.get-first.result.link c.requires.table c.requires.chain
    (ap (λ r. r.link) (sym c.get-first.ensures)) (omega (arith, c.if-first-eq0.false)) in
    omega (arith, c.requires.table.within)

-- what the two writes do
same : (c : goal.After-slice_known-3-1) → SameBut c.args.pool.now c.set-2.new.pool c.args.table c.get-first.result.link
same c = record { count = search rules; others = λ q some other. c.set-2.ensures.others q other ∙ c.set.ensures.others q some }

front : (c : goal.After-slice_known-3-1) → free_rows c.args.pool.now c.args.table ≡ c.get-first.result.link ∷ free_rows c.set-2.new.pool c.args.table
front c =
    let row = c.get-first.result.link in
    let last : dope_row c.set-2.new.pool c.args.table 0 ≡ dope_row c.set.new.pool c.args.table 0 =
    c.set-2.ensures.others 0 (λ e. absurd (c.if-first-eq0.false (sym e))) in
    free_rows-taken c.args.pool.now c.set-2.new.pool c.args.table row c.requires.table c.requires.chain (same c)
    (ap (λ r. r.link) (sym c.get-first.ensures)) (omega (arith, c.if-first-eq0.false))
    (ap (λ r. r.link) (last ∙ c.set.ensures.row) ∙ ap (λ r. r.link) c.get-next.ensures)

pub returns-clause-none : goal.returns-clause-none
returns-clause-none c = (λ e. absurd (cc e), λ e. let split = front c in cc)

pub returns-clause-front : goal.returns-clause-front
returns-clause-front c = front c

pub returns-clause-outside : goal.returns-clause-outside
returns-clause-outside c =
    let within = free_rows-front c.args.pool.now c.args.table c.get-first.result.link c.requires.table c.requires.chain
    (ap (λ r. r.link) (sym c.get-first.ensures)) (omega (arith, c.if-first-eq0.false)) in
    record {
      below = λ k d low. c.set-2.ensures.below k d (omega arith) ∙ c.set.ensures.below k d (omega arith);
      above = λ k d high. c.set-2.ensures.above k d (omega arith) ∙ c.set.ensures.above k d (omega arith);
    }

pub returns-clause-chain : goal.returns-clause-chain
returns-clause-chain c = IsFreeChain-tail c.args.pool.now c.set-2.new.pool c.args.table c.get-first.result.link c.requires.chain (same c).count (front c)
