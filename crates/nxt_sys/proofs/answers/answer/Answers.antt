-- The first member is a number.
use Rattle.std.proofs.Common.{w64, to_z-of_z}
use Rattle.nxt_sys.proofs.Answered.{answered}
use Rattle.nxt_sys.proofs.Laws.Named.{first_field}
use Rattle.nxt_sys.proofs.answers.answer.Goals as goal

pub set-requires : goal.set-requires
set-requires c = record { group = c.requires; field = first_field c.args.call }

pub returns-clause-does : goal.returns-clause-does
returns-clause-does c =
    answered c.args.space.now c.set.new.space c.args.cluster _ c.args.outcome (to_z-of_z {w = w64} {z = c.args.outcome} c.ranges.outcome) c.set.ensures.member c.set.ensures.cluster.sound
