-- One array less is open.
use Rattle.std.proofs.Common.{rules, ◌≡◌, All, false, ap, sym, ◌∙◌, subst, map}
use Rattle.std.proofs.lemmas.List.Elements.{All-drop}
use Rattle.nxt_layout.specs.Inside.RowPasses.{opened, back_to, is_back}
use Rattle.nxt_layout.specs.Inside.Known.{IsOpen}
use Rattle.nxt_layout.proofs.Dope.Named.{close_one}
use Rattle.nxt_layout.proofs.reach.close.Goals as goal

pub loop-array-preserved-in-loop-array : goal.loop-array-preserved-in-loop-array
loop-array-preserved-in-loop-array c =
    let other : is_back c.args.array (map opened c.loop-array.stack.items) ≡ false = search rules in
    record {
      rest =
          ap (λ os. back_to c.args.array (map opened os)) c.pop_front-over.ensures.rest
          ∙ close_one c.args.array c.loop-array.stack.items other
          ∙ c.loop-array.invariant.rest;
      open_still = λ g h.
          subst
          (All (IsOpen g))
          (sym c.pop_front-over.ensures.rest)
          (All-drop (IsOpen g) 1 c.loop-array.stack.items (c.loop-array.invariant.open_still g h));
    }

pub loop-array-preserved-in-loop-array-2 : goal.loop-array-preserved-in-loop-array-2
loop-array-preserved-in-loop-array-2 c =
    let other : is_back c.args.array (map opened c.loop-array.stack.items) ≡ false = search rules in
    record {
      rest =
          ap (λ os. back_to c.args.array (map opened os)) c.pop_front-over.ensures.rest
          ∙ close_one c.args.array c.loop-array.stack.items other
          ∙ c.loop-array.invariant.rest;
      open_still = λ g h.
          subst
          (All (IsOpen g))
          (sym c.pop_front-over.ensures.rest)
          (All-drop (IsOpen g) 1 c.loop-array.stack.items (c.loop-array.invariant.open_still g h));
    }
