-- How a statement ended, by what the variables say.
use Rattle.std.proofs.Common.{◌≡◌, ◌⊎◌, inl, inr, ℕ, ◌+◌, ◌<◌, ◌≤◌, Bool, true, false, List, [], ◌∷◌, ◌++◌, Ok, Err, Result, refl, sym, ap, ap₂, ◌∙◌, subst, arith, append-nil, slice_index, ℤ}
use Rattle.std.specs.Prelude.{if◌then◌else◌}
use Rattle.nxt_types.specs.Pool.{pool_size}
use Rattle.nxt_types.specs.Names.{named}
use Rattle.nxt_types.specs.Shapes.{is_number}
use Rattle.nxt_types.specs.Statements.{Statement, statement_of, statements}
use Rattle.nxt_types.specs.declared.instr.Instr.{Instr}
use Rattle.nxt_model.specs.Devices.{Devices, Change, changed}
use Rattle.nxt_model.specs.Image.{target}
use Rattle.nxt_model.specs.Means.Effects.{Operand, Effect, nothing, gives, device_change}
use Rattle.nxt_model.specs.SystemCalls.{Clock}
use Rattle.nxt_model.specs.Values.{Value, Num, stored, with_part}
use Rattle.nxt_model.specs.Variables.{Reference, references, put_all, part_of, read}
use Rattle.nxt_model.specs.declared.line.Line.{Line}
use Rattle.nxt_space.specs.Outcomes.{Does}
use Rattle.nxt_space.specs.Variables.{SpaceViews, Variables, AreSound, with_values, footprint_of, shape_by, shape_of, with_by, with_value}
use Rattle.nxt_space.specs.declared.fault.OpFault.{OpFault}
use Rattle.nxt_space.specs.declared.fault.OpFault.TheVariants.{PoolPassed}
use Rattle.nxt_operands.specs.Operands.{Done}
use Rattle.nxt_operands.proofs.Laws.Named.{IsNamed, IsPart}
use Rattle.nxt_operands.proofs.Laws.Stored.{number_set}
use Rattle.nxt_ops.specs.Ops.{runs as computes, statement_in, effect_in, values_after, next_of}
use Rattle.nxt_ops.specs.declared.run.Next.{Next}
use Rattle.nxt_ops.specs.declared.run.Next.TheVariants.{Fall, Jump}
use Rattle.nxt_ops.proofs.Laws.{same_statement}
use Rattle.nxt_arrays.specs.Arrays.{runs as works_on_lists, values_after as list_values}
use Rattle.nxt_machine.specs.Inside.Statements.{Told, operands_at, effect_at, vars_after, IsDone, IsRan, IsPassed}
use Rattle.nxt_machine.proofs.Meanings.Computing.{quiet, jumps_or_stores, falls, jumps, first_operand}
use Rattle.nxt_machine.proofs.Meanings.OnLists.{still}
use Rattle.nxt_machine.proofs.Steps.Fetched.{same_again, same_fits}

-- ---- a statement that computes

module _ (s new : SpaceViews) (words : List ℕ) (d : Devices) (lines : List Line) (t : Clock) (place word : ℕ) (i : Instr) (run : computes i.op ≡ true) where
  abbrev pub old_told : Told
  old_told = record { vars = s.vars; devices = d; lines = lines }

  abbrev pub new_told : Told
  new_told = record { vars = new.vars; devices = d; lines = lines }

  abbrev jumping : Bool
  jumping = (effect_in s.vars i d t).jumps

  -- what `run_op` tells
  abbrev pub Tells : Result Next OpFault → Type 0
  Tells r = Does (λ next. next ≡ next_of i jumping) (values_after s.vars i d t) s r new

  -- the place behind it
  abbrev place_by : Bool → ℕ
  place_by b = if b then target (statements words) word i.a else place + 1

  -- of the statement with all its words
  of_words : (next : ℕ) → IsRan words place word t (statement_in i) old_told new_told next → IsRan words place word t (statement_of i words) old_told new_told next
  of_words next is = subst (λ st. IsRan words place word t st old_told new_told next) (sym (same_statement i words run)) is

  ran : (next : ℕ) → footprint_of (with_values (values_after s.vars i d t) s.vars) ≤ pool_size → new.vars ≡ with_values (values_after s.vars i d t) s.vars → next ≡ place_by jumping → IsRan words place word t (statement_in i) old_told new_told next
  ran next fits vars goes =
      let still = quiet i.op run i.cmp d t (operands_at s.vars (statement_in i)) in
      record {
        fits = fits;
        vars = vars;
        devices = sym still.0;
        lines = sym (ap (λ ls. lines ++ ls) still.1 ∙ append-nil lines);
        goes = goes ∙ ap (λ a. if jumping then target (statements words) word a else place + 1) (sym (first_operand i.op i run));
      }

  pub fell : Tells (Ok Fall) → IsRan words place word t (statement_of i words) old_told new_told (place + 1)
  fell g = of_words (place + 1) (ran (place + 1) g.0 g.1 (sym (ap place_by (falls i jumping g.2))))

  pub jumped : (offset : ℤ) (next : ℕ) → Tells (Ok (Jump offset)) → next ≡ target (statements words) word i.a → IsRan words place word t (statement_of i words) old_told new_told next
  jumped offset next g leads = of_words next (ran next g.0 g.1 (leads ∙ sym (ap place_by (jumps i jumping offset g.2))))

  -- one that the pool doesn't hold has stores, and so doesn't jump
  stays : AreSound s.vars → pool_size < footprint_of (with_values (values_after s.vars i d t) s.vars) → jumping ≡ false
  stays sound passed = by (jumps_or_stores i.op run i.cmp d t (operands_at s.vars (statement_in i)))
    where
      by : (jumping ≡ false) ⊎ ((effect_in s.vars i d t).stores ≡ []) → jumping ≡ false
      by (inl e) = e
      by (inr e) =
          let same : values_after s.vars i d t ≡ s.vars.values = ap (λ ss. put_all (references s.vars.shapes (statement_in i)) ss s.vars.values) e in
          let fits = subst (λ v. footprint_of (with_values v s.vars) ≤ pool_size) (sym same) (same_fits s.vars sound) in
          let f : ⊥ = omega (arith, fits, passed) in
          absurd f

  pub refused : (bytes : ℕ) → AreSound s.vars → Tells (Err (PoolPassed bytes)) → IsPassed t (statement_of i words) old_told new_told bytes
  refused bytes sound g =
      subst
      (λ st. IsPassed t st old_told new_told bytes)
      (sym (same_statement i words run))
      (record {
        passed = g.0;
        bytes = g.1;
        same = ap (λ (v : SpaceViews). record { vars = v.vars; devices = d; lines = lines }) g.2;
        falls = stays sound g.0;
      })

-- ---- a statement on lists or texts

module _ (s new : SpaceViews) (words : List ℕ) (d : Devices) (lines : List Line) (t : Clock) (place word : ℕ) (i : Instr) (run : works_on_lists i.op ≡ true) where
  abbrev told_of : Variables → Told
  told_of v = record { vars = v; devices = d; lines = lines }

  -- what `run_array` tells
  abbrev pub TellsList : Result Unit OpFault → Type 0
  TellsList r = Does {T = Unit {0}} Done (list_values s.vars i words d t) s r new

  pub list_ran : TellsList (Ok tt) → IsRan words place word t (statement_of i words) (told_of s.vars) (told_of new.vars) (place + 1)
  list_ran g =
      let e = still i.op run i.cmp d t (operands_at s.vars (statement_of i words)) in
      record {
        fits = g.0;
        vars = g.1;
        devices = sym e.devices;
        lines = sym (ap (λ ls. lines ++ ls) e.lines ∙ append-nil lines);
        goes = sym (ap (λ b. if b then target (statements words) word (slice_index (statement_of i words).args 0) else place + 1) e.jumps);
      }

  pub list_refused : (bytes : ℕ) → TellsList (Err (PoolPassed bytes)) → IsPassed t (statement_of i words) (told_of s.vars) (told_of new.vars) bytes
  list_refused bytes g =
      record {
        passed = g.0;
        bytes = g.1;
        same = ap (λ (v : SpaceViews). told_of v.vars) g.2;
        falls = (still i.op run i.cmp d t (operands_at s.vars (statement_of i words))).jumps;
      }

-- ---- a statement that stores nothing

pub devices_done : (t : Clock) (st : Statement) (old : Told) (c : Change) → AreSound old.vars
    → effect_at old t st ≡ device_change c
    → IsDone t st old (record { vars = old.vars; devices = c.devices; lines = old.lines ++ c.lines })
devices_done t st old c sound e =
    let same : vars_after old t st ≡ old.vars =
    ap (λ x. with_values (put_all (references old.vars.shapes st) x.stores old.vars.values) old.vars) e ∙ same_again old.vars sound in
    record {
      fits = subst (λ v. footprint_of v ≤ pool_size) (sym same) sound.pool;
      vars = sym same;
      devices = sym (ap (λ x. x.devices) e);
      lines = sym (ap (λ x. old.lines ++ x.lines) e);
      falls = ap (λ x. x.jumps) e;
    }

-- it changes nothing
pub nothing_done : (t : Clock) (st : Statement) (old : Told) → AreSound old.vars → effect_at old t st ≡ nothing old.devices → IsDone t st old old
nothing_done t st old sound e =
    subst
    (λ ls. IsDone t st old (record { vars = old.vars; devices = old.devices; lines = ls }))
    (append-nil old.lines)
    (devices_done t st old (changed old.devices []) sound e)

-- ---- a statement that stores one number

number_values : (s : Variables) (a : ℕ) (more : List Reference) (v : Value) (d : Devices) → IsNamed s a → put_all (part_of (named s.shapes a) ∷ more) (gives (read s.values (part_of (named s.shapes a))) v d).stores s.values ≡ with_value s a (stored (shape_of s a) v)
number_values s a more v d is =
    ap (λ o. put_all (part_of o ∷ more) (gives (read s.values (part_of o)) v d).stores s.values) is.by_word
    ∙ ap (λ p. with_part p (stored is.name.shape v) s.values) (append-nil is.name.path)
    ∙ sym (ap (λ o. with_by o (stored (shape_by o) v) s.values) is.by_entry)

pub number_done : (s new : SpaceViews) (d : Devices) (lines : List Line) (t : Clock) (st : Statement) (a : ℕ) (more : List Reference) (x : ℤ) → AreSound s.vars → IsPart s.vars a is_number
    → references s.vars.shapes st ≡ part_of (named s.vars.shapes a) ∷ more
    → effect_at (record { vars = s.vars; devices = d; lines = lines }) t st ≡ gives (read s.vars.values (part_of (named s.vars.shapes a))) (Num x) d
    → new.vars ≡ record s.vars { values = with_value s.vars a (stored (shape_of s.vars a) (Num x)) }
    → IsDone t st (record { vars = s.vars; devices = d; lines = lines }) (record { vars = new.vars; devices = d; lines = lines })
number_done s new d lines t st a more x sound part refers e set =
    let dest : Operand = read s.vars.values (part_of (named s.vars.shapes a)) in
    let done = number_set s new a (Num x) x sound part.has refl set in
    let same : put_all (references s.vars.shapes st) (effect_at (record { vars = s.vars; devices = d; lines = lines }) t st).stores s.vars.values ≡ with_value s.vars a (stored (shape_of s.vars a) (Num x)) =
    ap₂ (λ rs (f : Effect). put_all rs f.stores s.vars.values) refers e ∙ number_values s.vars a more (Num x) d part.named in
    record {
      fits = subst (λ v. footprint_of (with_values v s.vars) ≤ pool_size) (sym same) done.0;
      vars = done.1 ∙ ap (λ v. with_values v s.vars) (sym same);
      devices = sym (ap (λ (f : Effect). f.devices) e ∙ gives_devices dest);
      lines = sym (ap (λ (f : Effect). lines ++ f.lines) e ∙ ap (λ ls. lines ++ ls) (gives_lines dest) ∙ append-nil lines);
      falls = ap (λ (f : Effect). f.jumps) e ∙ gives_falls dest;
    }
  where
    gives_devices : (o : Operand) → (gives o (Num x) d).devices ≡ d
    gives_devices o = refl

    gives_lines : (o : Operand) → (gives o (Num x) d).lines ≡ []
    gives_lines o = refl

    gives_falls : (o : Operand) → (gives o (Num x) d).jumps ≡ false
    gives_falls o = refl

-- ---- what was done

-- a statement that is done has run, and the next one follows
pub done_ran : (words : List ℕ) (place word : ℕ) (t : Clock) (st : Statement) (old new : Told) → IsDone t st old new → IsRan words place word t st old new (place + 1)
done_ran words place word t st old new is =
    record {
      fits = is.fits;
      vars = is.vars;
      devices = is.devices;
      lines = is.lines;
      goes = sym (ap (λ b. if b then target (statements words) word (slice_index st.args 0) else place + 1) is.falls);
    }
