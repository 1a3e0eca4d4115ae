-- The words of a command.
use Rattle.std.specs.Prelude.{ℕ, ◌-◌, List, [], ◌∷◌, map, length, codes, bytes_eq, nat_abs, nat_le, Vec, Option, Some, None, option_map, option_and_then, if◌then◌else◌}
use Rattle.std.specs.declared.alloc.Global.{Global}
use Rattle.nxt_script.specs.RowForms.{number_in, up_to}
use Rattle.nxt_tool.specs.declared.words.Command.{Command}
use Rattle.nxt_tool.specs.declared.words.Command.TheVariants.{Run, Assemble, Describe, Generate}
use Rattle.nxt_tool.specs.declared.words.Description.TheVariants.{Footprint, Listing}
use Rattle.nxt_tool.specs.declared.words.Language.TheVariants.{Rxe, Nbc}

-- a number of 32 bits, from which a program is made
abbrev pub generate_of : List ℕ → Option Command
generate_of number = option_map (λ z. Generate (nat_abs z)) (number_in (up_to 4294967295) number)

-- an effort, from 0 to 255 in one to three digits
abbrev pub effort_of : List ℕ → Option ℕ
effort_of number = if nat_le (length number) 3 then option_map nat_abs (number_in (up_to 255) number) else None

-- what is run, with an effort
abbrev pub run_of : ℕ → List ℕ → Option Command
run_of effort kind =
    if bytes_eq kind (codes "rxe") then Some (Run Rxe effort)
    else if bytes_eq kind (codes "nbc") then Some (Run Nbc effort)
    else None

-- what follows `run`: `rxe` or `nbc`, the name of an image or a text, and a script's name; before them may stand `--effort` and a
-- number, and without it the effort is 0
abbrev pub run_command : List (List ℕ) → Option Command
run_command (kind ∷ program ∷ script ∷ []) = run_of 0 kind
run_command (option ∷ number ∷ kind ∷ program ∷ script ∷ []) =
    if bytes_eq option (codes "--effort") then option_and_then (λ effort. run_of effort kind) (effort_of number) else None
run_command _ = None

-- `check` or `list` and an image's name; `gen` and a number; `asm`, a text's name and an image's name; or `run` and what follows it
abbrev pub command_of : List (List ℕ) → Option Command
command_of [] = None
command_of (a ∷ b ∷ []) =
    if bytes_eq a (codes "check") then Some (Describe Footprint)
    else if bytes_eq a (codes "list") then Some (Describe Listing)
    else if bytes_eq a (codes "gen") then generate_of b
    else None
command_of (a ∷ b ∷ c ∷ []) = if bytes_eq a (codes "asm") then Some Assemble else None
command_of (a ∷ more) = if bytes_eq a (codes "run") then run_command more else None

-- where the names of files stand among so many words: those of a run are the last two
abbrev pub program_word : ℕ → Option Command → Option ℕ
program_word count None = None
program_word count (Some (Run language effort)) = Some (count - 2)
program_word count (Some Assemble) = Some 1
program_word count (Some (Describe d)) = Some 1
program_word count (Some (Generate n)) = None

abbrev pub script_word : ℕ → Option Command → Option ℕ
script_word count (Some (Run language effort)) = Some (count - 1)
script_word count _ = None

abbrev pub image_word : Option Command → Option ℕ
image_word (Some Assemble) = Some 2
image_word _ = None

-- the words as lists of bytes
abbrev pub texts_of : List (Vec ℕ Global) → List (List ℕ)
texts_of words = map (λ w. w.items) words
