use Rattle.std.proofs.Common.{◌<◌, length, ap, pos, to_z-of_z, w64, ◌∙◌, arith}
use Rattle.nxt_asm_parts.specs.Defaults.{constant_leaves, with_leaves}
use Rattle.nxt_asm_parts.proofs.DefaultLeaves.{leaves_more}
use Rattle.nxt_asm_parts.proofs.defaults.write_numbers.Goals as goal

pub loop-place-preserved : goal.loop-place-preserved
loop-place-preserved c =
    let numbers = c.args.constants.now.numbers in
    let under : c.loop-place.place < length numbers = omega (arith, c.loop-place-test.true, c.number_count-place-end.ensures) in
    let read =
    ap (λ z. with_leaves c.loop-place.defaults (constant_leaves z)) (to_z-of_z {w = w64} {z = c.number_at.result} (record { sfits = c.number_at.type_inv })) in
    leaves_more constant_leaves numbers c.loop-place.place (pos 0) c.args.defaults.now c.loop-place.defaults c.write_number.new.defaults under
    c.loop-place.invariant (c.in_ok-write_number.ensures ∙ read ∙ ap (λ z. with_leaves c.loop-place.defaults (constant_leaves z)) c.number_at.ensures)
