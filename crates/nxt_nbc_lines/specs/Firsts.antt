-- The first form of a text that breaks a rule, and the rules that are kept.
use Rattle.std.specs.Prelude.{◌≡◌, ℕ, ◌≤◌, ◌<◌, min, Bool, true, false, if◌then◌else◌, List, [], ◌∷◌, drop, slice_index, Option, Some, None, Ok, ⊤}
use Rattle.nxt_model.specs.Nbc.Tokens.{Token, tokens_of, lines_of}
use Rattle.nxt_model.specs.Nbc.Forms.{Form, Formed, formed}
use Rattle.nxt_model.specs.Nbc.Text.{Block, LabelAt, labels_from}
use Rattle.nxt_model.specs.Nbc.NbcRules.{TextFault, tells, rank}
use Rattle.nxt_nbc_lines.specs.Held.{held_formed}

-- ---- lines

-- the lines of forms ascend, each above the one before it
abbrev pub Ascends : ℕ → List (ℕ × Form) → Type 0
Ascends n [] = ⊤
Ascends n ((line, f) ∷ fs) = (n < line) × Ascends line fs

-- the least line that a test finds, or none where it finds none
abbrev pub IsLeast : (ℕ → Bool) → Option ℕ → Type 0
IsLeast test (Some line) = (test line ≡ true) × ((l : ℕ) → l < line → test l ≡ false)
IsLeast test None = (l : ℕ) → test l ≡ false

-- the line of the first form that a test finds
abbrev pub first_line : (ℕ → Form → Bool) → List (ℕ × Form) → Option ℕ
first_line test [] = None
first_line test ((line, f) ∷ fs) = if test line f then Some line else first_line test fs

-- the lesser of two lines, where there are any
abbrev pub lesser : Option ℕ → Option ℕ → Option ℕ
lesser None o = o
lesser (Some a) None = Some a
lesser (Some a) (Some b) = Some (min a b)

-- ---- lines with operands

-- the least line at which a test finds an operand, with the least operand there
abbrev pub IsLeastPair : (ℕ → ℕ → Bool) → Option (ℕ × ℕ) → Type 0
IsLeastPair test (Some (line, k)) =
    (test line k ≡ true) × ((l j : ℕ) → l < line → test l j ≡ false) × ((j : ℕ) → j < k → test line j ≡ false)
IsLeastPair test None = (l j : ℕ) → test l j ≡ false

-- a line with an operand, or else a later one
abbrev pub pair_or : ℕ → Option ℕ → Option (ℕ × ℕ) → Option (ℕ × ℕ)
pair_or line (Some k) later = Some (line, k)
pair_or line None later = later

-- the line and the operand of the first form that has one, by a form's first operand, counted from 1
abbrev pub first_pair : (ℕ → Form → Option ℕ) → List (ℕ × Form) → Option (ℕ × ℕ)
first_pair first [] = None
first_pair first ((line, f) ∷ fs) = pair_or line (first line f) (first_pair first fs)

-- ---- blocks

-- the lines of each block ascend, above the one that opens it
abbrev pub BlocksAscend : List Block → Type 0
BlocksAscend [] = ⊤
BlocksAscend (b ∷ bs) = Ascends b.line b.items × BlocksAscend bs

-- the least line of the blocks' forms that a test finds, which also looks at the labels of a block
abbrev pub first_in_blocks : (ℕ → List LabelAt → Form → Bool) → List Block → Option ℕ
first_in_blocks test [] = None
first_in_blocks test (b ∷ bs) =
    lesser (first_line (λ line f. test line (labels_from 0 b.items) f) b.items) (first_in_blocks test bs)

-- ---- rules

-- these are the tokens of a text and its forms, with their numbers as they are held
abbrev pub HasForms : List ℕ → List Token → Formed → Type 0
HasForms text ts fd = (tokens_of text ≡ Ok ts) × (fd ≡ held_formed (formed (lines_of text ts)))

-- the number of a fault's rule, and its place
abbrev pub rule_of : TextFault → ℕ
rule_of f = slice_index (rank f) 0

abbrev pub place_of : TextFault → List ℕ
place_of f = drop 1 (rank f)

-- all rules up to a number are kept
abbrev pub Keeps : Formed → ℕ → Type 0
Keeps fd n = (f : TextFault) → rule_of f ≤ n → tells fd f ≡ false
