use Rattle.std.proofs.Common.{ap, length, take, arith, subst, List, ℕ, length-drop, refl}
use Rattle.std.specs.Io.KnownBytes.{Appends}
use Rattle.nxt_edge.proofs.Laws.{Front-take, Appends-take, rest_is}
use Rattle.nxt_edge.proofs.read_write.write_all.Goals as goal

pub returns-in_default-clause-err : goal.returns-in_default-clause-err
returns-in_default-clause-err g c = Front-take _ _ _ c.loop-at.at c.args.piece.now c.loop-at.invariant.wrote c.in_default.ensures.bytes

pub loop-at-preserved : goal.loop-at-preserved
loop-at-preserved g c =
    let xs = c.args.piece.now in
    let at = c.loop-at.at in
    let whole = rest_is xs xs at refl in
    record {
      within = omega (arith, length-drop {A = ℕ}, ap length whole, c.in-Ok.ensures.count);
      wrote = Appends-take _ _ _ at c.in-Ok.count xs c.loop-at.invariant.wrote
          (subst (λ (l : List ℕ). Appends (g.S.Sink.written c.loop-at.sink) (g.S.Sink.written c.write.new.self) (take c.in-Ok.count l)) whole c.in-Ok.ensures.bytes);
      later = omega (arith, c.in-Ok.ensures.cause.later);
    }
