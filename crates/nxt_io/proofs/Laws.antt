-- What the plain machine does with devices, in the words of the calls here.
use Rattle.std.proofs.Common.{◌≡◌, ℕ, Bool, true, false, if◌then◌else◌, List, [], ◌∷◌, ℤ, drop, Option, Some, None, slice_get, slice_set, refl, ap, sym, ◌∙◌}
use Rattle.std.proofs.lemmas.List.{set-get_or}
use Rattle.nxt_types.specs.Shapes.{Shape}
use Rattle.nxt_model.specs.declared.event.Event.TheVariants as events
use Rattle.nxt_model.specs.Devices.{Devices, Button, mailbox, without_oldest}
use Rattle.nxt_model.specs.Program.{Program, State}
use Rattle.nxt_model.specs.Step.{step, stepped, with_devices}
use Rattle.nxt_model.specs.SystemCalls.{read_button, take_random, read_message}
use Rattle.nxt_io.specs.Taken.{taken, count_reset, count_reset_of}

-- ---- steps of devices

pub step-reading : (p : Program) (st : State) (port raw normalized : ℕ) (scaled : ℤ)
    → step p st (events.Reading port raw normalized scaled)
    ≡ stepped (with_devices (taken (events.Reading port raw normalized scaled) st.devices) st) []
step-reading p st port raw normalized scaled = refl

pub step-tacho : (p : Program) (st : State) (port : ℕ) (speed count block rotation : ℤ)
    → step p st (events.Tacho port speed count block rotation)
    ≡ stepped (with_devices (taken (events.Tacho port speed count block rotation) st.devices) st) []
step-tacho p st port speed count block rotation = refl

pub step-button : (p : Program) (st : State) (i pressed presses : ℕ)
    → step p st (events.Button i pressed presses)
    ≡ stepped (with_devices (taken (events.Button i pressed presses) st.devices) st) []
step-button p st i pressed presses = refl

pub step-battery : (p : Program) (st : State) (mv : ℕ)
    → step p st (events.Battery mv) ≡ stepped (with_devices (taken (events.Battery mv) st.devices) st) []
step-battery p st mv = refl

pub step-random : (p : Program) (st : State) (z : ℤ)
    → step p st (events.Random z) ≡ stepped (with_devices (taken (events.Random z) st.devices) st) []
step-random p st z = refl

-- ---- system calls

read_button-of : (s : Shape) (b : Option Button) (i : ℕ) (reset : Bool) (d : Devices)
    → (read_button s b i reset d).devices ≡ (if reset then count_reset_of b i d else d)
read_button-of s None i true d = refl
read_button-of s None i false d = refl
read_button-of s (Some b) i reset d = refl

pub devices-read_button : (s : Shape) (i : ℕ) (reset : Bool) (d : Devices)
    → (read_button s (slice_get d.buttons i) i reset d).devices ≡ (if reset then count_reset i d else d)
devices-read_button s i reset d = read_button-of s (slice_get d.buttons i) i reset d

take_random-of : (s : Shape) (words : List ℤ) (d : Devices) → d.random ≡ words
    → (take_random s words d).devices ≡ record d { random = drop 1 words }
take_random-of s [] d h = ap (λ (ws : List ℤ). let e : Devices = record d { random = ws } in e) h
take_random-of s (z ∷ zs) d h = refl

pub devices-take_random : (s : Shape) (d : Devices)
    → (take_random s d.random d).devices ≡ record d { random = drop 1 d.random }
devices-take_random s d = take_random-of s d.random d refl

-- an empty mailbox stays as it is
pub without_oldest-empty : (box : ℕ) (d : Devices) → mailbox box d ≡ [] → without_oldest box d ≡ d
without_oldest-empty box d h =
    ap (λ (boxes : List (List (List ℕ))). let e : Devices = record d { mailboxes = boxes } in e)
    (ap (λ (m : List (List ℕ)). slice_set d.mailboxes box (drop 1 m)) h
    ∙ ap (λ (m : List (List ℕ)). slice_set d.mailboxes box m) (sym h)
    ∙ set-get_or d.mailboxes box [])

read_message-of : (s : Shape) (box : ℕ) (messages : List (List ℕ)) (remove : Bool) (d : Devices) → mailbox box d ≡ messages
    → (read_message s box messages remove d).devices ≡ (if remove then without_oldest box d else d)
read_message-of s box [] true d h = sym (without_oldest-empty box d h)
read_message-of s box [] false d h = refl
read_message-of s box (m ∷ ms) remove d h = refl

pub devices-read_message : (s : Shape) (box : ℕ) (remove : Bool) (d : Devices)
    → (read_message s box (mailbox box d) remove d).devices ≡ (if remove then without_oldest box d else d)
devices-read_message s box remove d = read_message-of s box (mailbox box d) remove d refl
