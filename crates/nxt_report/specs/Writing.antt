-- A text that is written piece by piece, and what stands where a write fails.
use Rattle.std.specs.Prelude.{◌≡◌, ℕ, ◌≤◌, List, ◌++◌, Option, Result, OnOk, OnErr, IfErr, ⊤}
use Rattle.std.specs.Io.KnownBytes.{Appends}
use Rattle.nxt_edge.specs.Edge.{Rose, AppendsFront}
use Rattle.nxt_report.specs.declared.writing.Fault.{Fault}
use Rattle.nxt_report.specs.declared.writing.Fault.TheVariants.{Read, Write, NoMemory}

-- a fault of a sink, or want of memory
abbrev pub IsOfWriting : Fault → Type 0
IsOfWriting Read = ⊥
IsOfWriting Write = ⊤
IsOfWriting NoMemory = ⊤

-- a call wrote this text, or at an `Err` a front of it; `Write` is told only where the sink's faults rose
pub record Writes {T : Type 0} (old new : Option (List ℕ)) (before now : ℕ) (result : Result T Fault) (text : List ℕ) : Type 0 where
  pub ok : OnOk result (Appends old new text)
  pub err : OnErr result (AppendsFront old new text)
  pub later : before ≤ now
  pub cause : IfErr result (λ fault. IsOfWriting fault × (fault ≡ Write → Rose before now))

-- of a whole text this much is left to write
pub record Wrote (old new : Option (List ℕ)) (whole left : List ℕ) : Type 0 where
  pub front : List ℕ
  pub wrote : Appends old new front
  pub split : front ++ left ≡ whole

-- a call added this text to a gathered one and wrote a front of both, or at an `Err` a front of that
pub record Gathers {T : Type 0} (old new : Option (List ℕ)) (before now : ℕ) (result : Result T Fault) (gathered left text : List ℕ) : Type 0 where
  pub ok : OnOk result (Wrote old new (gathered ++ text) left)
  pub err : OnErr result (AppendsFront old new (gathered ++ text))
  pub later : before ≤ now
  pub cause : IfErr result (λ fault. IsOfWriting fault × (fault ≡ Write → Rose before now))
