-- Events that led from one state to another, one part after another.
use Rattle.std.proofs.Common.{◌≡◌, ◌∙◌, ◌+◌, ◌-◌, ◌≤◌, ◌<◌, ◌++◌, ◌∷◌, ℕ, zero, suc, List, [], refl, sym, ap, arith, drop, get_or, length, replicate, append_assoc, append-nil}
use Rattle.std.specs.Prelude.{flat_map}
use Rattle.std.proofs.lemmas.List.{drop_more}
use Rattle.nxt_model.specs.declared.event.Event.{Event}
use Rattle.nxt_model.specs.declared.event.Event.TheVariants.{Bytecode}
use Rattle.nxt_model.specs.declared.event.ScriptRow.{ScriptRow}
use Rattle.nxt_model.specs.declared.line.Line.{Line}
use Rattle.nxt_model.specs.Image.{program_of}
use Rattle.nxt_model.specs.Program.{Program, State}
use Rattle.nxt_model.specs.Step.{Stepped, events_of, run, step, stepped, then_step}
use Rattle.nxt_machine.specs.Machines.{MachineViews}
use Rattle.nxt_tool.specs.Runs.{HasRun}

run_both : (p : Program) (es fs : List Event) (st : State) → run p (es ++ fs) st ≡ then_step (run p es st) (run p fs)
run_both p [] fs st = refl
run_both p (e ∷ es) fs st =
    let first = step p st e in
    let more = run p es first.state in
    ap (λ (x : Stepped). stepped x.state (first.lines ++ x.lines)) (run_both p es fs first.state)
    ∙ ap (stepped (run p fs more.state).state) (sym (append_assoc first.lines more.lines (run p fs more.state).lines))

pub has_run_none : (h : MachineViews) (lines : List Line) → HasRun h h [] lines lines
has_run_none h lines = record { image = refl; state = refl; lines = sym (append-nil lines) }

-- one part, and then another
pub has_run_both : (h h' h'' : MachineViews) (es fs : List Event) (a b c : List Line) → HasRun h h' es a b → HasRun h' h'' fs b c → HasRun h h'' (es ++ fs) a c
has_run_both h h' h'' es fs a b c first second =
    let p = program_of h.image in
    let mid = run p es h.state in
    let state : h''.state ≡ (run p fs mid.state).state = second.state ∙ ap (λ i. (run (program_of i) fs h'.state).state) first.image ∙ ap (λ st. (run p fs st).state) first.state in
    let told : (run (program_of h'.image) fs h'.state).lines ≡ (run p fs mid.state).lines =
    ap (λ i. (run (program_of i) fs h'.state).lines) first.image ∙ ap (λ st. (run p fs st).lines) first.state in
    record {
      image = second.image ∙ first.image;
      state = state ∙ sym (ap (λ (x : Stepped). x.state) (run_both p es fs h.state));
      lines =
          second.lines
          ∙ ap (λ t. b ++ t) told
          ∙ ap (λ t. t ++ (run p fs mid.state).lines) first.lines
          ∙ append_assoc a mid.lines (run p fs mid.state).lines
          ∙ ap (λ t. a ++ t) (sym (ap (λ (x : Stepped). x.lines) (run_both p es fs h.state)));
    }

-- events that are still to come
abbrev pub Leads : MachineViews → List Line → List Event → MachineViews → List Line → List Event → Type 0
Leads h a es h' b left = (h'' : MachineViews) (c : List Line) → HasRun h' h'' left b c → HasRun h h'' es a c

pub leads_from : (h : MachineViews) (a : List Line) (es : List Event) → Leads h a es h a es
leads_from h a es = λ h'' c rest. rest

-- some of them have run
pub leads_more : (h h' h'' : MachineViews) (a b c : List Line) (es first left : List Event) → Leads h a es h' b (first ++ left) → HasRun h' h'' first b c → Leads h a es h'' c left
leads_more h h' h'' a b c es first left leads ran = λ last d rest. leads last d (has_run_both h' h'' last first left b c d ran rest)

pub leads_all : (h h' : MachineViews) (a b : List Line) (es : List Event) → Leads h a es h' b [] → HasRun h h' es a b
leads_all h h' a b es leads = leads h' b (has_run_none h' b)

-- ---- so many bytecodes, and rows

replicate_add : (n m : ℕ) → replicate (n + m) Bytecode ≡ replicate n Bytecode ++ replicate m Bytecode
replicate_add zero m = ap (λ k. replicate k Bytecode) (let e : 0 + m ≡ m = omega arith in e)
replicate_add (suc n) m = ap (λ k. replicate k Bytecode) (let e : suc n + m ≡ suc (n + m) = omega arith in e) ∙ ap (λ es. Bytecode ∷ es) (replicate_add n m)

pub bytecodes_left : (left ran : ℕ) → ran ≤ left → replicate left Bytecode ≡ replicate ran Bytecode ++ replicate (left - ran) Bytecode
bytecodes_left left ran few = ap (λ k. replicate k Bytecode) (let e : left ≡ ran + (left - ran) = omega (arith, few) in e) ∙ replicate_add ran (left - ran)

pub rows_left : (rows : List ScriptRow) (i : ℕ) (row : ScriptRow) → i < length rows → row ≡ get_or rows i row → flat_map events_of (drop i rows) ≡ events_of row ++ flat_map events_of (drop (i + 1) rows)
rows_left rows i row below is =
    ap (flat_map events_of) (drop_more rows i row below) ∙ ap (λ (x : ScriptRow). events_of x ++ flat_map events_of (drop (i + 1) rows)) (sym is)
