-- A refusal that is passed on.
use Rattle.std.proofs.Common.{◌≡◌, Ok, Err, Result, sym, subst}
use Rattle.std.specs.Prelude.{IsErrAnd}
use Rattle.nxt_model.specs.Values.{Value}
use Rattle.nxt_space.specs.Outcomes.{Does}
use Rattle.nxt_space.specs.Variables.{SpaceViews}
use Rattle.nxt_space.specs.declared.fault.OpFault.{OpFault}
use Rattle.nxt_space.specs.declared.fault.OpFault.TheVariants.{PoolPassed, NoMemory}

-- it says the same, whatever is asked of the answer
same_refusal : {S T : Type 0} (asks : S → Type 0) (is : T → Type 0) (vars : Value) (old new : SpaceViews) (fault : OpFault) → Does asks vars old (Err fault) new → Does is vars old (Err fault) new
same_refusal asks is vars old new (PoolPassed f) h = h
same_refusal asks is vars old new NoMemory h = h

pub passed_on : {S T : Type 0} (asks : S → Type 0) (is : T → Type 0) (vars : Value) (old new : SpaceViews) (fault : OpFault) (r : Result T OpFault) → IsErrAnd r (λ f. f ≡ fault) → Does asks vars old (Err fault) new → Does is vars old r new
passed_on asks is vars old new fault (Ok x) e h = absurd e
passed_on asks is vars old new fault (Err f) e h = subst (λ g. Does is vars old (Err g) new) (sym e) (same_refusal asks is vars old new fault h)
