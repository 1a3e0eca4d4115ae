use Rattle.std.proofs.Common.{rules, ◌≡◌, ◌∷◌, arith, ap, ◌∙◌}
use Rattle.nxt_rows.specs.Rows.{dope_row, free_rows}
use Rattle.nxt_rows.proofs.Laws.FreeRows.{SameBut, free_rows-freed, IsFreeChain-cons}
use Rattle.nxt_rows.proofs.free_row.Goals as goal

-- what a free row's two writes do
same : (c : goal.After-slice_known-3-1) → SameBut c.args.pool.now c.set-2.new.pool c.args.table c.args.row
same c = record { count = search rules; others = λ q some other. c.set-2.ensures.others q some ∙ c.set.ensures.others q other }

front : (c : goal.After-slice_known-3-1) → free_rows c.set-2.new.pool c.args.table ≡ c.args.row ∷ free_rows c.args.pool.now c.args.table
front c =
    let last : dope_row c.set-2.new.pool c.args.table c.args.row ≡ dope_row c.set.new.pool c.args.table c.args.row =
    c.set-2.ensures.others c.args.row (λ e. absurd (omega (arith, c.requires.alive.above))) in
    free_rows-freed c.args.pool.now c.set-2.new.pool c.args.table c.args.row c.requires.table c.requires.chain c.requires.alive (same c)
    (ap (λ r. r.link) c.set-2.ensures.row)
    (ap (λ r. r.link) (last ∙ c.set.ensures.row ∙ c.free.ensures) ∙ ap (λ r. r.link) c.get-first.ensures)

pub returns-clause-front : goal.returns-clause-front
returns-clause-front c = front c

pub returns-clause-chain : goal.returns-clause-chain
returns-clause-chain c =
    IsFreeChain-cons c.args.pool.now c.set-2.new.pool c.args.table c.args.row c.requires.chain c.requires.alive (same c).count (front c)
