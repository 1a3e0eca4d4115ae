-- What a statement does changes the values alone.
use Rattle.std.proofs.Common.{◌≡◌, ap, Ok, Err}
use Rattle.std.specs.declared.result.Result.{Result}
use Rattle.nxt_model.specs.Values.{Value}
use Rattle.nxt_space.specs.Outcomes.{Does}
use Rattle.nxt_space.specs.Variables.{SpaceViews}
use Rattle.nxt_space.specs.declared.fault.OpFault.{OpFault}
use Rattle.nxt_space.specs.declared.fault.OpFault.TheVariants.{PoolPassed, NoMemory}

-- what is the same for other values and footprints stays
module _ {T : Type 0} (is : T → Type 0) (vars : Value) (old new : SpaceViews) where
  pub same_shapes : (r : Result T OpFault) → Does is vars old r new → new.vars.shapes ≡ old.vars.shapes
  same_shapes (Ok x) d = ap (λ s. s.shapes) d.1
  same_shapes (Err (PoolPassed f)) d = ap (λ s. s.vars.shapes) d.2
  same_shapes (Err NoMemory) d = ap (λ s. s.vars.shapes) d

  pub same_entries : (r : Result T OpFault) → Does is vars old r new → new.vars.entries ≡ old.vars.entries
  same_entries (Ok x) d = ap (λ s. s.entries) d.1
  same_entries (Err (PoolPassed f)) d = ap (λ s. s.vars.entries) d.2
  same_entries (Err NoMemory) d = ap (λ s. s.vars.entries) d
