-- What a system call does with variables, devices and lines.
use Rattle.std.specs.Prelude.{◌≡◌, ℕ, true, Some, IsSome, [], ◌∷◌, ◌++◌, Ok, Err}
use Rattle.std.specs.declared.result.Result.{Result}
use Rattle.nxt_types.specs.Calls.{call_of, is_cluster_of}
use Rattle.nxt_types.specs.declared.calls.Call.{Call}
use Rattle.nxt_model.specs.Devices.{Devices}
use Rattle.nxt_model.specs.LineList.{Roomy}
use Rattle.nxt_model.specs.Means.Effects.{Effect}
use Rattle.nxt_model.specs.SystemCalls.{Clock, system_call}
use Rattle.nxt_model.specs.Values.{Value}
use Rattle.nxt_model.specs.Variables.{Plain}
use Rattle.nxt_space.specs.Outcomes.{Does}
use Rattle.nxt_space.specs.Variables.{Variables, SpaceViews, AreSound, name_of, shape_of, value_of}
use Rattle.nxt_space.specs.declared.fault.OpFault.{OpFault}
use Rattle.nxt_operands.specs.Operands.{Done, place_of, values_stored}
use Rattle.nxt_sys.specs.declared.clock.Clock as code

-- the moments that the code is given
abbrev pub clock_of : code.Clock → Clock
clock_of c = record { now = c.now; start = c.start }

-- the variables are sound, and at the entry begins the cluster that the call of the number takes
pub record CanCall (s : Variables) (number cluster : ℕ) : Type 0 where
  pub sound : AreSound s
  pub named : IsSome (name_of s cluster)
  pub call : Call
  pub known : call_of number ≡ Some call
  pub shape : is_cluster_of call (shape_of s cluster) ≡ true

-- what the call of the number does
abbrev pub effect_of : Variables → Devices → Clock → ℕ → ℕ → Effect
effect_of s d t number cluster = system_call (call_of number) (shape_of s cluster) (value_of s cluster) d t

-- the values after an effect, whose second operand is the cluster
abbrev pub values_by : Variables → ℕ → ℕ → Effect → Value
values_by s number cluster e = values_stored s (Plain number ∷ place_of s cluster ∷ []) e

abbrev pub values_after : Variables → Devices → Clock → ℕ → ℕ → Value
values_after s d t number cluster = values_by s number cluster (effect_of s d t number cluster)

-- the effect has come about, on the variables, the devices and the lines; or it was refused, and nothing has changed
abbrev pub Ends : ℕ → ℕ → Effect → SpaceViews → Devices → Roomy → Result Unit OpFault → SpaceViews → Devices → Roomy → Type 0
Ends number cluster e old io out (Ok x) new io' out' =
    Does Done (values_by old.vars number cluster e) old (Ok x) new × (io' ≡ e.devices) × (out'.lines ≡ out.lines ++ e.lines)
Ends number cluster e old io out (Err fault) new io' out' =
    Does Done (values_by old.vars number cluster e) old (Err fault) new × (io' ≡ io) × (out'.lines ≡ out.lines)

-- the call of the number was done, or refused
abbrev pub Calls : ℕ → ℕ → Clock → SpaceViews → Devices → Roomy → Result Unit OpFault → SpaceViews → Devices → Roomy → Type 0
Calls number cluster t old io out result new io' out' =
    Ends number cluster (effect_of old.vars io t number cluster) old io out result new io' out'
