-- Fields stored one after another, and ports one after another.
use Rattle.std.proofs.Common.{◌≡◌, ◌<◌, ◌+◌, ℕ, suc, zero, List, [], ◌∷◌, ◌++◌, length, take, slice_index, ℤ, ap, sym, ◌∙◌, append_assoc, append-nil, add-one, arith}
use Rattle.nxt_model.specs.declared.line.Line.{Line}
use Rattle.nxt_model.specs.Devices.{Devices, Change, changed, set_out, each_port, and_then}

-- ---- fields

pub set_out-same : (port prop : ℕ) (z w : ℤ) (d e : Devices) → z ≡ w → d ≡ e → set_out port prop z d ≡ set_out port prop w e
set_out-same port prop z w d e h k =
    ap (λ (x : ℤ). set_out port prop x d) h ∙ ap (λ (x : Devices). set_out port prop w x) k

-- ---- ports

-- one more port
pub each_port-next : (ports : List ℕ) (i : ℕ) (f : ℕ → Devices → Change) (d : Devices) → i < length ports
    → each_port (take (suc i) ports) f d ≡ and_then (each_port (take i ports) f d) (f (slice_index ports i))
each_port-next [] i f d h = absurd (omega arith)
each_port-next (p ∷ ports) zero f d h =
    ap (λ (lines : List Line). changed (f p d).devices lines) (append-nil (f p d).lines)
each_port-next (p ∷ ports) (suc i) f d h =
    let first = f p d in
    let before = each_port (take i ports) f first.devices in
    let last = f (slice_index ports i) before.devices in
    let more : each_port (take (suc i) ports) f first.devices ≡ and_then before (f (slice_index ports i)) =
    each_port-next ports i f first.devices (omega arith) in
    ap (λ (c : Change). changed c.devices (first.lines ++ c.lines)) more
    ∙ ap (λ (lines : List Line). changed last.devices lines) (sym (append_assoc first.lines before.lines last.lines))

-- the devices and the lines after one more port
pub record AfterNext (ports : List ℕ) (i : ℕ) (f : ℕ → Devices → Change) (d after : Devices) (told now : List Line) : Type 0 where
  pub devices : after ≡ (each_port (take (i + 1) ports) f d).devices
  pub lines : now ≡ told ++ (each_port (take (i + 1) ports) f d).lines

pub after_next :
    (ports : List ℕ) (i : ℕ) (f : ℕ → Devices → Change) (d before after : Devices) (told said now : List Line)
    → i < length ports
    → before ≡ (each_port (take i ports) f d).devices
    → said ≡ told ++ (each_port (take i ports) f d).lines
    → after ≡ (f (slice_index ports i) before).devices
    → now ≡ said ++ (f (slice_index ports i) before).lines
    → AfterNext ports i f d after told now
after_next ports i f d before after told said now h devices lines moved tells =
    let next : each_port (take (i + 1) ports) f d ≡ and_then (each_port (take i ports) f d) (f (slice_index ports i)) =
    rw add-one (each_port-next ports i f d h) in
    record {
      devices =
          moved ∙ ap (λ (x : Devices). (f (slice_index ports i) x).devices) devices
          ∙ ap (λ (c : Change). c.devices) (sym next);
      lines =
          tells ∙ ap (λ (x : Devices). said ++ (f (slice_index ports i) x).lines) devices
          ∙ ap (λ (x : List Line). x ++ (f (slice_index ports i) (each_port (take i ports) f d).devices).lines) lines
          ∙ append_assoc told (each_port (take i ports) f d).lines (f (slice_index ports i) (each_port (take i ports) f d).devices).lines
          ∙ ap (λ (c : Change). told ++ c.lines) (sym next);
    }
