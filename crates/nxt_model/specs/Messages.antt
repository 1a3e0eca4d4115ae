-- Messages of the mailboxes.
use Rattle.std.specs.Prelude.{ℕ, ◌≡◌, ◌-◌, ◌≤◌, Bool, true, ◌&&◌, ◌==◌, nat_le, List, length, take, slice_index}
use Rattle.nxt_model.specs.DirectCommands.{filled}
use Rattle.nxt_model.specs.declared.message.Message.TheInside.{Inside}

-- a message has 1 to 59 bytes and ends in 0
abbrev pub is_message : List ℕ → Bool
is_message bytes =
    nat_le 1 (length bytes) && nat_le (length bytes) 59 && slice_index bytes (length bytes - 1) == 0

-- a message, and zeros behind it
pub record IsKept (m : Inside) : Type 0 where
  pub few : m.size ≤ 59
  pub held : m.size ≤ length m.bytes
  pub bytes : m.bytes ≡ filled 59 (take m.size m.bytes)
  pub message : is_message (take m.size m.bytes) ≡ true
