use Rattle.std.proofs.Common.{◌≡◌, ◌∙◌, ◌+◌, arith}
use Rattle.nxt_types.specs.Bytes.{u16_at}
use Rattle.nxt_rows.proofs.Laws.Writes.{u16_at-kept, dope_row-other, dope_row-written}
use Rattle.nxt_rows.proofs.set.Goals as goal

pub returns-clause-row : goal.returns-clause-row
returns-clause-row c =
    let at = c.row_at-at.result in
    let p1 = c.write_u16.new.pool in
    let p2 = c.write_u16-2.new.pool in
    let p3 = c.write_u16-3.new.pool in
    let p4 = c.write_u16-4.new.pool in
    let p5 = c.write_u16-5.new.pool in
    let place : u16_at p5 at ≡ u16_at p1 at = u16_at-kept p1 p5 at (λ k low high. grind arith) in
    let stride : u16_at p5 (at + 2) ≡ u16_at p2 (at + 2) = u16_at-kept p2 p5 (at + 2) (λ k low high. grind arith) in
    let count : u16_at p5 (at + 4) ≡ u16_at p3 (at + 4) = u16_at-kept p3 p5 (at + 4) (λ k low high. grind arith) in
    let back : u16_at p5 (at + 6) ≡ u16_at p4 (at + 6) = u16_at-kept p4 p5 (at + 6) (λ k low high. grind arith) in
    dope_row-written p5 c.args.table c.args.row at c.args.to c.row_at-at.ensures (place ∙ c.write_u16.ensures.written)
    (stride ∙ c.write_u16-2.ensures.written) (count ∙ c.write_u16-3.ensures.written) (back ∙ c.write_u16-4.ensures.written)
    c.write_u16-5.ensures.written

pub returns-clause-others : goal.returns-clause-others
returns-clause-others c = λ r other. dope_row-other c.args.pool.now c.write_u16-5.new.pool c.args.table c.args.row r
    (λ k d h. grind arith) (λ k d h. grind arith) other
