-- Past the end the list of lists stays as it is.
use Rattle.std.proofs.Common.{length, Ok, inl, inr, sym, subst}
use Rattle.std.specs.Prelude.{slice_set}
use Rattle.std.proofs.lemmas.Bool.{cases_lt}
use Rattle.nxt_model.specs.Values.{elements, list_of}
use Rattle.nxt_space.specs.Outcomes.{Does}
use Rattle.nxt_space.specs.Variables.{SpaceViews, value_of, with_value}
use Rattle.nxt_operands.specs.Operands.{Done}
use Rattle.nxt_lists.proofs.InnerLists.{past_end}
use Rattle.nxt_lists.proofs.inner.put_element.Goals as goal

pub returns-clause-does : goal.returns-clause-does
returns-clause-does c i j lists new =
    let s = c.args.space.now.vars in
    let done = c.in_ok-copy_to_inner.ensures in
    elim (cases_lt c.args.k (length (elements (value_of s i)))) [
      | inl less ↦ let all = done.within i j lists new less in (all.0, all.1, tt)
      | inr more ↦
          let stays = (done.past i lists more).1 in
          subst
          (λ (t : SpaceViews). Does {T = Unit {0}} Done (with_value s i (list_of (slice_set (elements (value_of s i)) c.args.k (value_of s j)))) c.args.space.now (Ok tt) t)
          (sym stays)
          (past_end c.args.space.now i j c.args.k c.args.lists c.requires.sound lists more)
    ]
