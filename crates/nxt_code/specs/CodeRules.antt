-- When a file is refused for its clumps and code.
use Rattle.std.specs.Prelude.{◌≡◌, ◌<◌, ℕ, ◌+◌, ◌-◌, Bool, true, false, ◌&&◌, ◌||◌, not, ◌==◌, nat_lt, nat_le, List, [], ◌∷◌, length, take, drop, slice_get, slice_index, ℤ, pos, Option, Some, None, is_some, IsTrue}
use Rattle.std.specs.List.{list_any}
use Rattle.std.specs.Ordering.{int_eq}
use Rattle.nxt_types.specs.declared.instr.Op.{Op}
use Rattle.nxt_types.specs.declared.instr.Op.TheVariants as ops
use Rattle.nxt_types.specs.declared.lists.ClumpRec.{ClumpRec}
use Rattle.nxt_types.specs.Refusals.{passes}
use Rattle.nxt_types.specs.Shapes.{Members}
use Rattle.nxt_types.specs.Statements.{Statement, Spelled, statement_at, statements, IsStatement, landing, offset_of}
use Rattle.nxt_types.specs.Words.{left_out}
use Rattle.nxt_types.specs.OperandRules.{sorts_of, operand_fits}
use Rattle.nxt_code.specs.declared.fault.CodeFault.{CodeFault}
use Rattle.nxt_code.specs.declared.fault.CodeFault.TheVariants.{ClumpCount, ClumpStart, Dependent, Instr, Operand, Jump, FallsOut, NoMemory}

-- the variables of a table, and the clumps, dependents and code words of a file
pub record Program : Type 0 where
  pub shapes : Members
  pub clumps : List ClumpRec
  pub dependents : List ℕ
  pub words : List ℕ

abbrev pub program : Members → List ClumpRec → List ℕ → List ℕ → Program
program ss cs ds words = record { shapes = ss; clumps = cs; dependents = ds; words = words }

-- ---- clumps

-- the dependents of each clump: each takes its number from the front
abbrev pub dependent_lists : List ClumpRec → List ℕ → List (List ℕ)
dependent_lists [] ds = []
dependent_lists (c ∷ cs) ds = take c.dependents ds ∷ dependent_lists cs (drop c.dependents ds)

-- the dependent of a clump at a position
abbrev pub dependent_in : Option (List ℕ) → ℕ → Option ℕ
dependent_in None k = None
dependent_in (Some ds) k = slice_get ds k

abbrev pub dependent_at : List ClumpRec → List ℕ → ℕ → ℕ → Option ℕ
dependent_at cs ds c k = dependent_in (slice_get (dependent_lists cs ds) c) k

-- the dependent names none of the clumps
abbrev pub names_no_clump : List ClumpRec → List ℕ → ℕ → ℕ → Bool
names_no_clump cs ds c k = passes (λ d. nat_le (length cs) d) (dependent_at cs ds c k)

-- ---- statements

abbrev pub length_of : Option Spelled → ℕ
length_of None = 0
length_of (Some s) = s.1

-- a statement is spelled at the word
abbrev pub is_spelled : List ℕ → ℕ → Bool
is_spelled words w = is_some (statement_at (drop w words))

-- the word behind a statement
abbrev pub end_of : List ℕ → ℕ × Statement → ℕ
end_of words s = s.0 + length_of (statement_at (drop s.0 words))

-- one of the statements begins at the word
abbrev pub begins : List (ℕ × Statement) → ℕ → Bool
begins sts w = list_any (λ s. s.0 == w) sts

-- a word of a statement that isn't its first
abbrev pub is_inside : List ℕ → ℕ → Bool
is_inside words w = list_any (λ s. nat_lt s.0 w && nat_lt w (end_of words s)) (statements words)

-- the code begins there, or a statement ends before it
abbrev pub is_due : List ℕ → ℕ → Bool
is_due words w = (w == 0) || list_any (λ s. end_of words s == w) (statements words)

-- the clump starts past the code, or inside a statement
abbrev pub starts_badly : List ℕ → ClumpRec → Bool
starts_badly words r = nat_le (length words) r.start || is_inside words r.start

abbrev pub is_bad_start : List ℕ → List ClumpRec → ℕ → Bool
is_bad_start words cs c = passes (starts_badly words) (slice_get cs c)

-- a statement is due there, and none is spelled
abbrev pub lacks_statement : List ℕ → ℕ → Bool
lacks_statement words w = is_due words w && nat_lt w (length words) && not (is_spelled words w)

-- a test of the statement that begins at the word
abbrev pub of_statement : List ℕ → ℕ → (Statement → Bool) → Bool
of_statement words w test = list_any (λ s. (s.0 == w) && test s.1) (statements words)

abbrev pub is_jump : Op → Bool
is_jump ops.Jmp = true
is_jump ops.Brcmp = true
is_jump ops.Brtst = true
is_jump _ = false

-- the word that the jump at a word leads to
abbrev pub target : ℕ → Statement → ℤ
target w s = landing w (offset_of (slice_index s.args 0))

-- one of the statements begins at the word, which is a whole number
abbrev pub begins_at : List (ℕ × Statement) → ℤ → Bool
begins_at sts word = list_any (λ t. int_eq (pos t.0) word) sts

abbrev pub leads_nowhere : List ℕ → ℕ → Statement → Bool
leads_nowhere words w s = is_jump s.op && not (begins_at (statements words) (target w s))

abbrev pub is_stray_jump : List ℕ → ℕ → Bool
is_stray_jump words w = of_statement words w (leads_nowhere words w)

-- the statement behind it may come next, by its first operand
abbrev pub goes_on : Op → ℕ → Bool
goes_on ops.Jmp w = false
goes_on ops.Finclump w = false
goes_on ops.Finclumpimmed w = false
goes_on ops.Subret w = false
goes_on ops.Stop w = not (w == left_out)
goes_on _ w = true

abbrev pub may_go_on : Statement → Bool
may_go_on s = goes_on s.op (slice_index s.args 0)

-- the last statement is at the word, and passes the test
abbrev pub is_last_at : ℕ → (Statement → Bool) → List (ℕ × Statement) → Bool
is_last_at w test [] = false
is_last_at w test (s ∷ []) = (s.0 == w) && test s.1
is_last_at w test (s ∷ t ∷ more) = is_last_at w test (t ∷ more)

-- the last statement is at the word, and may go on
abbrev pub falls_out : List ℕ → ℕ → Bool
falls_out words w = is_last_at w may_go_on (statements words)

-- ---- operands

-- operand k, counted from 1, of the statement isn't of its class or doesn't fit those before it
abbrev pub is_refused_operand : Members → ℕ → ℕ → Statement → Bool
is_refused_operand ss clumps k s =
    nat_lt 0 k && nat_le k (length s.args) && not (operand_fits clumps s.op (sorts_of ss s) (k - 1))

abbrev pub is_bad_operand : Members → ℕ → List ℕ → ℕ → ℕ → Bool
is_bad_operand ss clumps words w k = of_statement words w (is_refused_operand ss clumps k)

-- ---- rules

abbrev pub is_bad_count : ℕ → ℕ → Bool
is_bad_count clumps n = (n == clumps) && ((n == 0) || nat_lt 255 n)

-- the rule of the fault is broken at the fault's place
abbrev pub breaks : Program → CodeFault → Bool
breaks p (ClumpCount n) = is_bad_count (length p.clumps) n
breaks p (ClumpStart c) = is_bad_start p.words p.clumps c
breaks p (Dependent c k) = names_no_clump p.clumps p.dependents c k
breaks p (Instr w) = lacks_statement p.words w
breaks p (Operand w k) = is_bad_operand p.shapes (length p.clumps) p.words w k
breaks p (Jump w) = is_stray_jump p.words w
breaks p (FallsOut w) = falls_out p.words w
breaks p NoMemory = false

abbrev pub Broken : Program → CodeFault → Type 0
Broken p f = IsTrue (breaks p f)

-- the rule's number, and the place
abbrev pub rank : CodeFault → List ℕ
rank (ClumpCount n) = 19 ∷ n ∷ []
rank (ClumpStart c) = 20 ∷ c ∷ []
rank (Dependent c k) = 21 ∷ c ∷ k ∷ []
rank (Instr w) = 22 ∷ w ∷ []
rank (Operand w k) = 23 ∷ w ∷ k ∷ []
rank (Jump w) = 24 ∷ w ∷ []
rank (FallsOut w) = 25 ∷ w ∷ []
rank NoMemory = []

-- ---- what accepted code has

-- the statement at the word, of n words
pub record IsFitAt (p : Program) (w : ℕ) (s : Statement) (n : ℕ) : Type 0 where
  -- each operand, counted from 0, is of its class, and fits those before it
  pub operands : (k : ℕ) → k < length s.args → IsTrue (operand_fits (length p.clumps) s.op (sorts_of p.shapes s) k)
  -- a jump leads to a statement
  pub jumps : IsTrue (is_jump s.op) → (v : ℕ) × (target w s ≡ pos v) × IsTrue (begins (statements p.words) v)
  -- where it may go on, a statement follows
  pub next : IsTrue (may_go_on s) → IsTrue (begins (statements p.words) (w + n))

-- each clump starts at a statement, and each statement is fit
pub record IsFit (p : Program) : Type 0 where
  pub starts : (c : ℕ) (r : ClumpRec) → slice_get p.clumps c ≡ Some r → IsTrue (begins (statements p.words) r.start)
  pub each : (w : ℕ) (s : Statement) (n : ℕ) → IsTrue (begins (statements p.words) w) → IsStatement p.words w s n → IsFitAt p w s n
