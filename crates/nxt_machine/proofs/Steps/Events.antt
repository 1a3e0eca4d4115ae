-- Events from outside.
use Rattle.std.proofs.Common.{◌≡◌, ℕ, List, [], refl}
use Rattle.nxt_model.specs.declared.event.Event.{Event}
use Rattle.nxt_model.specs.declared.event.Event.TheVariants as events
use Rattle.nxt_model.specs.Program.{Program, State}
use Rattle.nxt_model.specs.Step.{step, stepped, with_devices}
use Rattle.nxt_io.specs.Taken.{taken}

-- what is no bytecode, no time and no telegram changes devices alone
pub step_of_device : (p : Program) (st : State) (e : Event) → (e ≡ events.Bytecode → ⊥) → ((n : ℕ) → e ≡ events.Tick n → ⊥) → ((bytes : List ℕ) → e ≡ events.Telegram bytes → ⊥) →
    step p st e ≡ stepped (with_devices (taken e st.devices) st) []
step_of_device p st events.Bytecode f g h = absurd (f refl)
step_of_device p st (events.Tick n) f g h = absurd (g n refl)
step_of_device p st (events.Reading port raw normalized scaled) f g h = refl
step_of_device p st (events.Tacho port speed count block rotation) f g h = refl
step_of_device p st (events.Button i pressed presses) f g h = refl
step_of_device p st (events.Battery mv) f g h = refl
step_of_device p st (events.Random n) f g h = refl
step_of_device p st (events.Telegram bytes) f g h = absurd (h bytes refl)
step_of_device p st (events.Compact k) f g h = refl
step_of_device p st events.Dump f g h = refl
