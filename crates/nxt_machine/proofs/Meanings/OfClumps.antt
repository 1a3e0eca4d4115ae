-- A statement of clumps: what it is given, and that it does nothing else.
use Rattle.std.proofs.Common.{◌≡◌, ℕ, ◌+◌, ◌-◌, ◌<◌, ◌≤◌, Bool, true, false, ◌==◌, List, Option, Some, None, refl, sym, ap, ◌∙◌, arith, eqb-true}
use Rattle.std.specs.Prelude.{if◌then◌else◌, nat_lt, option_map}
use Rattle.std.proofs.lemmas.Bool.Decides.{nat_tests}
use Rattle.nxt_types.specs.Arithmetic.{word}
use Rattle.nxt_types.specs.Names.{Name, named, name_in, name_among, below, size, sizes}
use Rattle.nxt_types.specs.OperandRules.{AreFit, is_mutex}
use Rattle.nxt_types.specs.Shapes.{Members, no_members, member, is_number}
use Rattle.nxt_types.specs.Statements.{statement_of}
use Rattle.nxt_types.specs.declared.instr.Instr.{Instr}
use Rattle.nxt_types.specs.declared.instr.Op.{Op}
use Rattle.nxt_types.specs.declared.instr.Op.TheVariants as ops
use Rattle.nxt_types.specs.declared.kind.Cmp.{Cmp}
use Rattle.nxt_types.specs.declared.opcodes.Class.TheVariants.{OptionalIn}
use Rattle.nxt_model.specs.Devices.{Devices}
use Rattle.nxt_model.specs.Means.{means}
use Rattle.nxt_model.specs.Means.Effects.{Operand, nothing, word_or, value_of}
use Rattle.nxt_model.specs.SystemCalls.{Clock}
use Rattle.nxt_model.specs.Values.{Value, number}
use Rattle.nxt_model.specs.Variables.{Absent, part_of, refers, read}
use Rattle.nxt_space.specs.Variables.{Variables}
use Rattle.nxt_ops.specs.Ops.{runs as computes}
use Rattle.nxt_arrays.specs.Arrays.{runs as works_on_lists}
use Rattle.nxt_operands.proofs.Laws.Named.{IsPart, part_fits, fit_by}
use Rattle.nxt_machine.specs.Numbers.{number_at}

-- ---- it does nothing to values and devices

-- it is neither of these, nor one on devices or the clock
pub record IsIdle (op : Op) : Type 0 where
  pub computing : computes op ≡ false
  pub on_lists : works_on_lists op ≡ false
  pub setout : op ≡ ops.Setout → ⊥
  pub setin : op ≡ ops.Setin → ⊥
  pub getin : op ≡ ops.Getin → ⊥
  pub getout : op ≡ ops.Getout → ⊥
  pub gettick : op ≡ ops.Gettick → ⊥
  pub syscall : op ≡ ops.Syscall → ⊥

pub idle : (op : Op) → IsIdle op → (c : Cmp) (d : Devices) (t : Clock) (os : List Operand) → means op c d t os ≡ nothing d
idle ops.Stop is c d t os = refl
idle ops.Finclump is c d t os = refl
idle ops.Finclumpimmed is c d t os = refl
idle ops.Acquire is c d t os = refl
idle ops.Release is c d t os = refl
idle ops.Subcall is c d t os = refl
idle ops.Subret is c d t os = refl
idle ops.Wait is c d t os = refl
idle ops.Setout is c d t os = absurd (is.setout refl)
idle ops.Gettick is c d t os = absurd (is.gettick refl)
idle ops.Syscall is c d t os = absurd (is.syscall refl)
idle ops.Setin is c d t os = absurd (is.setin refl)
idle ops.Getin is c d t os = absurd (is.getin refl)
idle ops.Getout is c d t os = absurd (is.getout refl)
idle ops.Index is c d t os = let f = is.on_lists in let no : ⊥ = cc in absurd no
idle ops.Replace is c d t os = let f = is.on_lists in let no : ⊥ = cc in absurd no
idle ops.Arrsize is c d t os = let f = is.on_lists in let no : ⊥ = cc in absurd no
idle ops.Arrbuild is c d t os = let f = is.on_lists in let no : ⊥ = cc in absurd no
idle ops.Arrsubset is c d t os = let f = is.on_lists in let no : ⊥ = cc in absurd no
idle ops.Arrinit is c d t os = let f = is.on_lists in let no : ⊥ = cc in absurd no
idle ops.Flatten is c d t os = let f = is.on_lists in let no : ⊥ = cc in absurd no
idle ops.Unflatten is c d t os = let f = is.on_lists in let no : ⊥ = cc in absurd no
idle ops.Numtostr is c d t os = let f = is.on_lists in let no : ⊥ = cc in absurd no
idle ops.Strtonum is c d t os = let f = is.on_lists in let no : ⊥ = cc in absurd no
idle ops.Strcat is c d t os = let f = is.on_lists in let no : ⊥ = cc in absurd no
idle ops.Strsubset is c d t os = let f = is.on_lists in let no : ⊥ = cc in absurd no
idle ops.Strtoarr is c d t os = let f = is.on_lists in let no : ⊥ = cc in absurd no
idle ops.Arrtostr is c d t os = let f = is.on_lists in let no : ⊥ = cc in absurd no
idle _ is c d t os = let e = is.computing in let f = is.on_lists in let no : ⊥ = cc in absurd no

-- ---- its operands

-- the word of a number that is named, or 0
word_by : (o : Option Name) (vars : Value) → word_or 0 (read vars (part_of o)) ≡ word (number (value_of (read vars (part_of o))))
word_by None vars = refl
word_by (Some n) vars = refl

pub word_named : (s : Variables) (w : ℕ) → word_or 0 (read s.values (part_of (named s.shapes w))) ≡ word (number_at s w)
word_named s w = word_by (named s.shapes w) s.values

-- an operand that may be left out names nothing then
optional_by : (ss : Members) (w : ℕ) (b : Bool) → (w == 65535) ≡ b → (if b then Absent else part_of (named ss w)) ≡ part_of (named ss w)
optional_by ss w true e = ap (λ n. part_of (named ss n)) (sym (eqb-true w 65535 e))
optional_by ss w false e = refl

pub optional_same : (ss : Members) (w : ℕ) → refers ss OptionalIn w ≡ part_of (named ss w)
optional_same ss w = optional_by ss w (w == 65535) refl

-- ---- what they name

acquire_fits : (s : Variables) (i : Instr) (words : List ℕ) → i.op ≡ ops.Acquire → AreFit s.shapes (statement_of i words) → IsPart s i.a is_mutex
acquire_fits s i words e f = part_fits is_mutex s i.a refl ((fit_by s i words ops.Acquire e f).fit 0 (omega arith))

release_fits : (s : Variables) (i : Instr) (words : List ℕ) → i.op ≡ ops.Release → AreFit s.shapes (statement_of i words) → IsPart s i.a is_mutex
release_fits s i words e f = part_fits is_mutex s i.a refl ((fit_by s i words ops.Release e f).fit 0 (omega arith))

pub caller_fits : (s : Variables) (i : Instr) (words : List ℕ) → i.op ≡ ops.Subcall → AreFit s.shapes (statement_of i words) → IsPart s i.b is_number
caller_fits s i words e f = part_fits is_number s i.b refl ((fit_by s i words ops.Subcall e f).fit 1 (omega arith))

pub input_fits : (s : Variables) (i : Instr) (words : List ℕ) → i.op ≡ ops.Getin → AreFit s.shapes (statement_of i words) → IsPart s i.a is_number
input_fits s i words e f = part_fits is_number s i.a refl ((fit_by s i words ops.Getin e f).fit 0 (omega arith))

pub output_fits : (s : Variables) (i : Instr) (words : List ℕ) → i.op ≡ ops.Getout → AreFit s.shapes (statement_of i words) → IsPart s i.a is_number
output_fits s i words e f = part_fits is_number s i.a refl ((fit_by s i words ops.Getout e f).fit 0 (omega arith))

pub tick_fits : (s : Variables) (i : Instr) (words : List ℕ) → i.op ≡ ops.Gettick → AreFit s.shapes (statement_of i words) → IsPart s i.a is_number
tick_fits s i words e f = part_fits is_number s i.a refl ((fit_by s i words ops.Gettick e f).fit 0 (omega arith))

-- what is named is inside of the table
named_within : (ss : Members) (k i : ℕ) (n : Name) → name_among ss k i ≡ Some n → i < sizes ss
named_within no_members k i n e = let f : ⊥ = cc in absurd f
named_within (member s ss) k i n e = by (nat_lt i (size s)) refl (λ f. named_within ss (k + 1) (i - size s) n f)
  where
    by : (b : Bool) → nat_lt i (size s) ≡ b → (name_among ss (k + 1) (i - size s) ≡ Some n → i - size s < sizes ss) → i < size s + sizes ss
    by true f rest = let less : i < size s = grind (arith, nat_tests, f) in omega (arith, less)
    by false f rest =
        let least : size s ≤ i = grind (arith, nat_tests, f) in
        let behind = rest (sym (ap (λ b. if b then option_map (below k) (name_in s i) else name_among ss (k + 1) (i - size s)) f) ∙ e) in
        omega (arith, least, behind)

mutex_within : (s : Variables) (w : ℕ) → IsPart s w is_mutex → w < sizes s.shapes
mutex_within s w part = named_within s.shapes 0 w part.named.name part.named.by_entry

pub acquired_within : (s : Variables) (i : Instr) (words : List ℕ) → i.op ≡ ops.Acquire → AreFit s.shapes (statement_of i words) → i.a < sizes s.shapes
acquired_within s i words e f = mutex_within s i.a (acquire_fits s i words e f)

pub released_within : (s : Variables) (i : Instr) (words : List ℕ) → i.op ≡ ops.Release → AreFit s.shapes (statement_of i words) → i.a < sizes s.shapes
released_within s i words e f = mutex_within s i.a (release_fits s i words e f)
