-- What statements on devices and the clock give, by their words.
use Rattle.std.proofs.Common.{◌≡◌, ℕ, ◌+◌, ◌<◌, true, List, [], ◌∷◌, slice_range, drop, refl, sym, ap, ◌∙◌, arith}
use Rattle.std.specs.Prelude.{pos, nat_le}
use Rattle.std.proofs.lemmas.Bool.{and_parts, leb-true}
use Rattle.nxt_types.specs.Arithmetic.{word}
use Rattle.nxt_types.specs.Names.{named}
use Rattle.nxt_types.specs.Opcodes.{arity}
use Rattle.nxt_types.specs.OperandRules.{AreFit, is_plain, is_value}
use Rattle.nxt_types.specs.Shapes.{is_number}
use Rattle.nxt_types.specs.Statements.{Statement, statement_of, args_of}
use Rattle.nxt_types.specs.declared.instr.Instr.{Instr}
use Rattle.nxt_types.specs.declared.instr.Op.{Op}
use Rattle.nxt_types.specs.declared.instr.Op.TheVariants as ops
use Rattle.nxt_model.specs.Devices.{Devices, changed, set_in, get_in, get_out}
use Rattle.nxt_model.specs.Means.{means}
use Rattle.nxt_model.specs.Means.Effects.{Operand, Effect, effect, gives, device_change}
use Rattle.nxt_model.specs.SystemCalls.{Clock}
use Rattle.nxt_model.specs.Values.{Num}
use Rattle.nxt_model.specs.Variables.{Reference, Plain, part_of, references, read}
use Rattle.nxt_space.specs.Variables.{Variables, shape_by, shape_of}
use Rattle.nxt_operands.proofs.Laws.Named.{IsNamed, IsPart, asked_parts, is_part, operand_shape, fit_by, statement_by}
use Rattle.nxt_ops.specs.Preparing.{is_a_number}
use Rattle.nxt_machine.specs.Memory.{works_on_numbers}
use Rattle.nxt_machine.specs.Numbers.{number_at, ports_at, set_motors_by}
use Rattle.nxt_machine.specs.Inside.Statements.{operands_at}
use Rattle.nxt_machine.proofs.Meanings.OfClumps.{word_named}
use Rattle.nxt_machine.proofs.Meanings.Ports.{setout_after}

module _ (s : Variables) (i : Instr) (words : List ℕ) (d : Devices) (t : Clock) where
  abbrev pub st : Statement
  st = statement_of i words

  -- what the statement gives
  abbrev pub its_effect : Effect
  its_effect = means i.op i.cmp d t (operands_at s st)

  -- that of an operation
  abbrev effect_by : Op → Effect
  effect_by op = means op i.cmp d t (operands_at s (statement_by op i words))

  abbrev dest : Operand
  dest = read s.values (part_of (named s.shapes i.a))

  -- the words behind the first operand
  abbrev pub more : List ℕ
  more = slice_range words i.rest_at (i.rest_at + i.rest)

  pub setout_effect : i.op ≡ ops.Setout → IsNamed s i.a → its_effect ≡ device_change (set_motors_by s (ports_at s i.a) (drop 1 st.args) d)
  setout_effect e is =
      ap effect_by e
      ∙ setout_after s i.cmp i.a more d is
      ∙ sym (ap (λ op. device_change (set_motors_by s (ports_at s i.a) (drop 1 (args_of (arity op) i words)) d)) e)

  pub setin_effect : i.op ≡ ops.Setin → its_effect ≡ device_change (changed (set_in (word (number_at s i.b)) i.c (number_at s i.a) d) [])
  setin_effect e = ap effect_by e ∙ ap (λ p. effect [] (set_in p i.c (number_at s i.a) d)) (word_named s i.b)

  pub getin_effect : i.op ≡ ops.Getin → its_effect ≡ gives dest (Num (get_in (word (number_at s i.b)) i.c d)) d
  getin_effect e = ap effect_by e ∙ ap (λ p. gives dest (Num (get_in p i.c d)) d) (word_named s i.b)

  pub getout_effect : i.op ≡ ops.Getout → its_effect ≡ gives dest (Num (get_out (word (number_at s i.b)) i.c d)) d
  getout_effect e = ap effect_by e ∙ ap (λ p. gives dest (Num (get_out p i.c d)) d) (word_named s i.b)

  pub gettick_effect : i.op ≡ ops.Gettick → its_effect ≡ gives dest (Num (pos t.now)) d
  gettick_effect e = ap effect_by e

  -- ---- what its words refer to

  abbrev refers_by : Op → List Reference
  refers_by op = references s.shapes (statement_by op i words)

  pub getin_refers : i.op ≡ ops.Getin → references s.shapes st ≡ part_of (named s.shapes i.a) ∷ part_of (named s.shapes i.b) ∷ Plain i.c ∷ []
  getin_refers e = ap refers_by e

  pub getout_refers : i.op ≡ ops.Getout → references s.shapes st ≡ part_of (named s.shapes i.a) ∷ part_of (named s.shapes i.b) ∷ Plain i.c ∷ []
  getout_refers e = ap refers_by e

  pub gettick_refers : i.op ≡ ops.Gettick → references s.shapes st ≡ part_of (named s.shapes i.a) ∷ []
  gettick_refers e = ap refers_by e

  pub syscall_refers : i.op ≡ ops.Syscall → references s.shapes st ≡ Plain i.a ∷ part_of (named s.shapes i.b) ∷ []
  syscall_refers e = ap refers_by e

-- ---- what accepted code has

-- the first operand of a statement that sets motors
pub ports_fit : (s : Variables) (i : Instr) (words : List ℕ) → i.op ≡ ops.Setout → AreFit s.shapes (statement_of i words) → IsPart s i.a is_plain
ports_fit s i words e f =
    is_part is_plain s i.a refl
    (asked_parts (is_value (operand_shape s i.a)) (is_plain (operand_shape s i.a)) true ((fit_by s i words ops.Setout e f).fit 0 (omega arith))).1

-- and that of one on numbers alone is a number
pub port_number : (s : Variables) (i : Instr) (words : List ℕ) → i.op ≡ ops.Setout → IsNamed s i.a → works_on_numbers i.op (operands_at s (statement_of i words)) ≡ true → is_number (shape_of s i.a) ≡ true
port_number s i words e m works =
    let all = sym (ap (λ op. works_on_numbers op (operands_at s (statement_by op i words))) e) ∙ works in
    ap (λ o. is_number (shape_by o)) m.by_entry ∙ sym (ap (λ o. is_a_number (read s.values (part_of o))) m.by_word) ∙ (and_parts _ _ all).0

module _ (s : Variables) (i : Instr) (words : List ℕ) (f : AreFit s.shapes (statement_of i words)) where
  pub getin_property : i.op ≡ ops.Getin → i.c < 256
  getin_property e =
      let small = leb-true i.c 5 (and_parts true (nat_le i.c 5) ((fit_by s i words ops.Getin e f).fit 2 (omega arith))).1 in omega (arith, small)

  pub getout_property : i.op ≡ ops.Getout → i.c < 256
  getout_property e =
      let small = leb-true i.c 14 (and_parts true (nat_le i.c 14) ((fit_by s i words ops.Getout e f).fit 2 (omega arith))).1 in omega (arith, small)
