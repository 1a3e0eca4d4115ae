-- A system call: what it is given, and how it ended.
use Rattle.std.proofs.Common.{◌≡◌, ℕ, ◌+◌, ◌<◌, ◌≤◌, Bool, true, false, List, [], ◌∷◌, ◌++◌, slice_get, slice_index, length, Option, Some, None, Ok, Err, refl, sym, ap, ap₂, ◌∙◌, subst, arith, ℤ}
use Rattle.std.specs.Prelude.{if◌then◌else◌, nat_lt}
use Rattle.std.proofs.lemmas.Bool.{and_parts}
use Rattle.nxt_types.specs.Calls.{call_of, is_cluster_of}
use Rattle.nxt_types.specs.OperandRules.{AreFit, is_call, is_cluster, is_value}
use Rattle.nxt_types.specs.Pool.{pool_size}
use Rattle.nxt_types.specs.Shapes.{Shape}
use Rattle.nxt_types.specs.Statements.{statement_of, statements}
use Rattle.nxt_types.specs.declared.calls.Call.{Call}
use Rattle.nxt_types.specs.declared.calls.Call.TheVariants as calls
use Rattle.nxt_types.specs.declared.instr.Instr.{Instr}
use Rattle.nxt_types.specs.declared.instr.Op.{Op}
use Rattle.nxt_types.specs.declared.instr.Op.TheVariants as ops
use Rattle.nxt_model.specs.Devices.{Devices, Button, mailbox}
use Rattle.nxt_model.specs.Image.{target}
use Rattle.nxt_model.specs.LineList.{Roomy}
use Rattle.nxt_model.specs.Means.{means, calls as call_means}
use Rattle.nxt_model.specs.Means.Effects.{Effect, Immediate}
use Rattle.nxt_model.specs.Means.Text.{body, ended}
use Rattle.nxt_model.specs.SystemCalls.{Clock, system_call, read_button, take_random, write_message, read_message, field_word, field_text, is_set}
use Rattle.nxt_model.specs.Values.{Value}
use Rattle.nxt_model.specs.Variables.{Plain, part_of, references, put_all}
use Rattle.nxt_space.specs.Variables.{SpaceViews, Variables, AreSound, with_values, footprint_of}
use Rattle.nxt_space.specs.declared.fault.OpFault.TheVariants.{PoolPassed}
use Rattle.nxt_operands.proofs.Laws.Named.{IsNamed, IsPart, asked_parts, is_part, named_some, operand_shape, fit_by, statement_by}
use Rattle.nxt_sys.specs.Calls.{CanCall, Calls, effect_of, values_by}
use Rattle.nxt_machine.specs.Inside.Statements.{Told, operands_at, IsRan, IsPassed}
use Rattle.nxt_machine.proofs.Meanings.Acts.{its_effect, syscall_refers}
use Rattle.nxt_machine.proofs.Meanings.Ports.{given_same}

-- ---- a call never jumps

button_falls : (s : Shape) (b : Option Button) (i : ℕ) (reset : Bool) (d : Devices) → (read_button s b i reset d).jumps ≡ false
button_falls s None i reset d = refl
button_falls s (Some b) i reset d = refl

random_falls : (s : Shape) (zs : List ℤ) (d : Devices) → (take_random s zs d).jumps ≡ false
random_falls s [] d = refl
random_falls s (z ∷ zs) d = refl

either_falls : (b : Bool) (x y : Effect) → x.jumps ≡ false → y.jumps ≡ false → (if b then x else y).jumps ≡ false
either_falls true x y e f = e
either_falls false x y e f = f

written_falls : (s : Shape) (box : ℕ) (message : List ℕ) (d : Devices) → (write_message s box message d).jumps ≡ false
written_falls s box message d = either_falls (nat_lt 19 box) _ _ refl (either_falls (nat_lt 59 (length message)) _ _ refl refl)

message_falls : (s : Shape) (box : ℕ) (ms : List (List ℕ)) (remove : Bool) (d : Devices) → (read_message s box ms remove d).jumps ≡ false
message_falls s box [] remove d = refl
message_falls s box (m ∷ ms) remove d = refl

pub call_falls : (o : Option Call) (s : Shape) (v : Value) (d : Devices) (t : Clock) → (system_call o s v d t).jumps ≡ false
call_falls None s v d t = refl
call_falls (Some calls.ReadButton) s v d t = button_falls s (slice_get d.buttons (field_word 1 v)) (field_word 1 v) (is_set (field_word 4 v)) d
call_falls (Some calls.RandomNumber) s v d t = random_falls s d.random d
call_falls (Some calls.WriteMessage) s v d t = written_falls s (field_word 1 v) (ended (body (field_text 2 v))) d
call_falls (Some calls.ReadMessage) s v d t =
    either_falls (nat_lt 19 (field_word 1 v)) _ _ refl (message_falls s (field_word 1 v) (mailbox (field_word 1 v) d) (is_set (field_word 2 v)) d)
call_falls (Some _) s v d t = refl

-- ---- what it is given

some_call : (o : Option Call) (s : Shape) → is_call o ≡ true → is_cluster o s ≡ true → (c : Call) × (o ≡ Some c) × (is_cluster_of c s ≡ true)
some_call None s e f = let no : ⊥ = cc in absurd no
some_call (Some c) s e f = (c, refl, f)

-- the call that a number tells, and the cluster that an entry begins
pub record IsCall (s : Variables) (i : Instr) : Type 0 where
  pub call : Call
  pub known : call_of i.a ≡ Some call
  pub cluster : IsPart s i.b (is_cluster_of call)

pub call_fits : (s : Variables) (i : Instr) (words : List ℕ) → i.op ≡ ops.Syscall → AreFit s.shapes (statement_of i words) → IsCall s i
call_fits s i words e f =
    let fit = fit_by s i words ops.Syscall e f in
    let known = (and_parts true (is_call (call_of i.a)) (fit.fit 0 (omega arith))).1 in
    let shape = (asked_parts (is_value (operand_shape s i.b)) (is_cluster (call_of i.a) (operand_shape s i.b)) true (fit.fit 1 (omega arith))).1 in
    let found = some_call (call_of i.a) (operand_shape s i.b) known shape in
    record { call = found.0; known = found.1; cluster = is_part (is_cluster_of found.0) s i.b refl found.2 }

pub can_call : (s : Variables) (i : Instr) → AreSound s → IsCall s i → CanCall s i.a i.b
can_call s i sound is =
    record {
      sound = sound;
      named = named_some s i.b is.cluster.named;
      call = is.call;
      known = is.known;
      shape = is.cluster.has;
    }

-- it gives what the call of the number gives
pub gives_call : (s : Variables) (i : Instr) (words : List ℕ) (d : Devices) (t : Clock) → i.op ≡ ops.Syscall → IsNamed s i.b → its_effect s i words d t ≡ effect_of s d t i.a i.b
gives_call s i words d t op named_by =
    ap (λ o. means_by o) op ∙ ap (call_means d t (Immediate i.a)) (given_same s i.b named_by)
  where
    means_by : Op → Effect
    means_by o = means o i.cmp d t (operands_at s (statement_by o i words))

-- ---- how it ended

module _ (s new : SpaceViews) (words : List ℕ) (place word : ℕ) (t : Clock) (i : Instr) (io io' : Devices) (out out' : Roomy) (op : i.op ≡ ops.Syscall) (named_by : IsNamed s.vars i.b) where
  abbrev told_old : Told
  told_old = record { vars = s.vars; devices = io; lines = out.lines }

  abbrev told_new : Told
  told_new = record { vars = new.vars; devices = io'; lines = out'.lines }

  abbrev gave : Effect
  gave = effect_of s.vars io t i.a i.b

  same_effect : its_effect s.vars i words io t ≡ gave
  same_effect = gives_call s.vars i words io t op named_by

  same_values : put_all (references s.vars.shapes (statement_of i words)) (its_effect s.vars i words io t).stores s.vars.values ≡ values_by s.vars i.a i.b gave
  same_values =
      ap₂ (λ rs (e : Effect). put_all rs e.stores s.vars.values) (syscall_refers s.vars i words io t op) same_effect
      ∙ ap (λ r. put_all (Plain i.a ∷ r ∷ []) gave.stores s.vars.values) (ap part_of (named_by.by_word ∙ sym named_by.by_entry))

  falls : (its_effect s.vars i words io t).jumps ≡ false
  falls = ap (λ (e : Effect). e.jumps) same_effect ∙ call_falls (call_of i.a) _ _ io t

  pub call_ran : Calls i.a i.b t s io out (Ok tt) new io' out' → IsRan words place word t (statement_of i words) told_old told_new (place + 1)
  call_ran g =
      record {
        fits = subst (λ v. footprint_of (with_values v s.vars) ≤ pool_size) (sym same_values) g.0.0;
        vars = g.0.1 ∙ ap (λ v. with_values v s.vars) (sym same_values);
        devices = g.1 ∙ sym (ap (λ (e : Effect). e.devices) same_effect);
        lines = g.2 ∙ sym (ap (λ (e : Effect). out.lines ++ e.lines) same_effect);
        goes = sym (ap (λ b. if b then target (statements words) word (slice_index (statement_of i words).args 0) else place + 1) falls);
      }

  pub call_refused : (bytes : ℕ) → Calls i.a i.b t s io out (Err (PoolPassed bytes)) new io' out' → IsPassed t (statement_of i words) told_old told_new bytes
  call_refused bytes g =
      record {
        passed = subst (λ v. pool_size < footprint_of (with_values v s.vars)) (sym same_values) g.0.0;
        bytes = g.0.1 ∙ ap (λ v. footprint_of (with_values v s.vars)) (sym same_values);
        same =
            ap (λ (x : SpaceViews). record { vars = x.vars; devices = io'; lines = out'.lines }) g.0.2
            ∙ ap₂ (λ d ls. record { vars = s.vars; devices = d; lines = ls }) g.1 g.2;
        falls = falls;
      }
