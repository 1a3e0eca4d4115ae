-- What is found is kept beside what was, or beside nothing.
use Rattle.std.proofs.Common.{rules, sym, subst}
use Rattle.nxt_layout.specs.Inside.Known.{IsKnown}
use Rattle.nxt_layout.proofs.Dope.Kept.{known_more}
use Rattle.nxt_layout.proofs.known.Known.keep.Goals.{then-self-gt-MOST_KEPT, else-self-gt-MOST_KEPT}
use Rattle.nxt_layout.proofs.known.Known.keep.Goals as goal

pub returns : goal.returns
returns c g known found =
    let before : IsKnown g c.if-self-gt-MOST_KEPT.self =
    elim c.if-self-gt-MOST_KEPT.branch [
      | then-self-gt-MOST_KEPT w ↦ search rules
      | else-self-gt-MOST_KEPT w ↦ subst (IsKnown g) (sym w.self-is) known
    ]
    in
    known_more g c.if-self-gt-MOST_KEPT.self c.insert.new.self c.args.key c.args.found before found c.in_ok-_none.ensures.updates.0
