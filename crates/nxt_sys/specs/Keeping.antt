-- What a system call leaves in its place.
use Rattle.std.specs.Prelude.{ℕ, ◌<◌, [], ◌∷◌, Option, Some}
use Rattle.nxt_types.specs.declared.calls.Call.{Call}
use Rattle.nxt_types.specs.declared.calls.Call.TheVariants.{ReadMessage}
use Rattle.nxt_types.specs.declared.calls.Field.TheVariants.{Text}
use Rattle.nxt_model.specs.SystemCalls.{field_word}
use Rattle.nxt_space.specs.Keeping.{TableStays, Leaves}
use Rattle.nxt_space.specs.Variables.{SpaceViews, value_of}
use Rattle.nxt_sys.specs.Fields.{IsMember}

-- the call that reads a message writes a list, to member 3 of its cluster; where there is no such mailbox, a number alone
pub record LeavesMessage (cluster : ℕ) (old new : SpaceViews) : Type 0 where
  pub missing : 19 < field_word 1 (value_of old.vars cluster) → TableStays old new
  pub text : (i : ℕ) → IsMember old.vars cluster 3 Text i → Leaves (i ∷ []) old new

-- all other calls write numbers alone
abbrev pub LeavesAfter : Option Call → ℕ → SpaceViews → SpaceViews → Type 0
LeavesAfter (Some ReadMessage) cluster old new = LeavesMessage cluster old new
LeavesAfter _ cluster old new = TableStays old new
