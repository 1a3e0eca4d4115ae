-- What bytecodes and events told, one after another.
use Rattle.std.proofs.Common.{◌≡◌, ℕ, zero, suc, ◌+◌, ◌-◌, ◌<◌, ◌≤◌, List, [], ◌∷◌, ◌++◌, length, take, get_or, Option, Result, Ok, Err, refl, sym, ap, ap₂, ◌∙◌, subst, arith, replicate, append_assoc}
use Rattle.std.proofs.lemmas.Grind.{flat_map-append}
use Rattle.std.proofs.lemmas.List.{append-nil}
use Rattle.std.specs.Result.{IsErrAnd}
use Rattle.nxt_edge.specs.Edge.{Rose, AppendsFront}
use Rattle.nxt_model.specs.Dump.{Mark, mark_after}
use Rattle.nxt_model.specs.declared.event.Event.{Event}
use Rattle.nxt_model.specs.declared.event.Event.TheVariants as events
use Rattle.nxt_model.specs.declared.line.Line.{Line}
use Rattle.nxt_model.specs.Image.{program_of}
use Rattle.nxt_model.specs.LineText.{line_text, lines_text}
use Rattle.nxt_model.specs.Program.{State}
use Rattle.nxt_model.specs.Report.{Setting, Tells, Told, setting}
use Rattle.nxt_model.specs.Step.{step, run}
use Rattle.nxt_model.proofs.Laws.Reports.{AllPlain, plain_tells}
use Rattle.nxt_space.specs.Dumping.{Obeys}
use Rattle.nxt_machine.specs.Dumping.{marks_after}
use Rattle.nxt_machine.specs.Machines.{MachineViews, space_of}
use Rattle.nxt_report.specs.Running.{HasTold, HasToldFirst, Ran, setting_of}
use Rattle.nxt_report.specs.Writing.{Gathers, IsOfWriting}
use Rattle.nxt_report.proofs.Pieces.{on_ok, on_err}
use Rattle.nxt_report.specs.declared.writing.Fault.{Fault}
use Rattle.nxt_report.specs.declared.writing.Fault.TheVariants.{Write}

-- ---- texts of lines

-- the text of one line more
texts_suc : (xs : List Line) (i : ℕ) (x d : Line) → i < length xs → x ≡ get_or xs i d → lines_text (take (suc i) xs) ≡ lines_text (take i xs) ++ line_text x
texts_suc [] i x d few is = absurd (omega (arith, few))
texts_suc (y ∷ ys) zero x d few is = append-nil (line_text y) ∙ sym (ap line_text is)
texts_suc (y ∷ ys) (suc i) x d few is =
    ap (λ t. line_text y ++ t) (texts_suc ys i x d (omega (arith, few)) is) ∙ sym (append_assoc (line_text y) (lines_text (take i ys)) (line_text x))

pub texts_next : (xs : List Line) (i : ℕ) (x d : Line) → i < length xs → x ≡ get_or xs i d → lines_text (take (i + 1) xs) ≡ lines_text (take i xs) ++ line_text x
texts_next xs i x d few is = ap (λ n. lines_text (take n xs)) (let e : i + 1 ≡ suc i = omega arith in e) ∙ texts_suc xs i x d few is

-- ---- what events told

-- some events, and then others
pub told_both : (s : Setting) (es fs : List Event) (st st' st'' : State) (mark mark' mark'' : Option Mark) (text more : List ℕ) → Told s st mark es text st' mark' → Told s st' mark' fs more st'' mark''
    → Told s st mark (es ++ fs) (text ++ more) st'' mark''
told_both s [] fs st st' st'' mark mark' mark'' text more (none, state, same) later =
    subst (λ t. Told s st mark fs (t ++ more) st'' mark'') (sym none)
    (subst (λ k. Told s st k fs more st'' mark'') same (subst (λ k. Told s k mark' fs more st'' mark'') state later))
told_both s (e ∷ es) fs st st' st'' mark mark' mark'' text more t later = (
  t.0,
  t.1 ++ more,
  t.2,
  ap (λ x. x ++ more) t.3 ∙ append_assoc t.0 t.1 more,
  t.4,
  told_both s es fs (step s.program st e).state st' st'' t.2 mark' mark'' t.1 more t.5 later,
)

-- what events told they tell
pub told_tells : (s : Setting) (es : List Event) (st st' : State) (mark mark' : Option Mark) (text : List ℕ) → Told s st mark es text st' mark' → Tells s st mark es text
told_tells s [] st st' mark mark' text t = t.0
told_tells s (e ∷ es) st st' mark mark' text t = (t.0, t.1, t.2, t.3, t.4, told_tells s es (step s.program st e).state st' t.2 mark' t.1 t.5)

-- events without a dump told their lines
pub plain_told : (s : Setting) (es : List Event) (st : State) (mark : Option Mark) → AllPlain es → Told s st mark es (lines_text (run s.program es st).lines) (run s.program es st).state (marks_after s.program s.effort es st mark)
plain_told s [] st mark plain = (refl, refl, refl)
plain_told s (e ∷ es) st mark plain = (
  lines_text (step s.program st e).lines,
  lines_text (run s.program es (step s.program st e).state).lines,
  mark_after s.program s.effort st e mark,
  flat_map-append line_text (step s.program st e).lines (run s.program es (step s.program st e).state).lines,
  plain_tells s st mark e plain.0,
  plain_told s es (step s.program st e).state (mark_after s.program s.effort st e mark) plain.1,
)

all_plain : (n : ℕ) → AllPlain (replicate n events.Bytecode)
all_plain zero = tt
all_plain (suc n) = (refl, all_plain n)

-- ---- machines

pub has_told_none : (m : MachineViews) → HasTold m m [] []
has_told_none m = record { image = refl; effort = refl; told = λ mark obeys. (mark, (refl, refl, refl), obeys) }

same_setting : (m m' : MachineViews) → m'.image ≡ m.image → m'.effort ≡ m.effort → setting_of m' ≡ setting_of m
same_setting m m' image effort = ap₂ setting image effort

-- some events, and then others
pub has_told_both : (m m' m'' : MachineViews) (es fs : List Event) (text more : List ℕ) → HasTold m m' es text → HasTold m' m'' fs more → HasTold m m'' (es ++ fs) (text ++ more)
has_told_both m m' m'' es fs text more first second = record {
  image = second.image ∙ first.image;
  effort = second.effort ∙ first.effort;
  told = λ mark obeys.
      let a = first.told mark obeys in
      let b = second.told a.0 a.2 in
      let later = subst (λ s. Told s m'.state a.0 fs more m''.state b.0) (same_setting m m' first.image first.effort) b.1 in
      (b.0, told_both (setting_of m) es fs m.state m'.state m''.state mark a.0 b.0 text more a.1 later, b.2);
}

-- all events are first ones too
pub first_all : (m m' : MachineViews) (all done more : List Event) (text : List ℕ) → all ≡ done ++ more → HasTold m m' done text → HasToldFirst m all text
first_all m m' all done more text split has = record {
  done = done;
  more = more;
  split = split;
  told = λ mark obeys. let t = has.told mark obeys in (m'.state, t.0, t.1);
}

-- the first events behind others
pub first_behind : (m m' : MachineViews) (es fs : List Event) (text more : List ℕ) → HasTold m m' es text → HasToldFirst m' fs more → HasToldFirst m (es ++ fs) (text ++ more)
first_behind m m' es fs text more first second = record {
  done = es ++ second.done;
  more = second.more;
  split = ap (λ l. es ++ l) second.split ∙ sym (append_assoc es second.done second.more);
  told = λ mark obeys.
      let a = first.told mark obeys in
      let b = second.told a.0 a.2 in
      let later = subst (λ s. Told s m'.state a.0 second.done more b.0 b.1) (same_setting m m' first.image first.effort) b.2 in
      (b.0, b.1, told_both (setting_of m) es second.done m.state m'.state b.0 mark a.0 b.1 text more a.1 later);
}

-- ---- bytecodes

module _ (m m' : MachineViews) (n : ℕ) (image : m'.image ≡ m.image) (effort : m'.effort ≡ m.effort)
    (state : m'.state ≡ (run (program_of m.image) (replicate n events.Bytecode) m.state).state)
    (obeys : (mark : Option Mark) → Obeys mark (space_of m) → Obeys (marks_after (program_of m.image) m.effort (replicate n events.Bytecode) m.state mark) (space_of m'))
  where
    pub bytecodes_told : (lines : List Line) → lines ≡ (run (program_of m.image) (replicate n events.Bytecode) m.state).lines → HasTold m m' (replicate n events.Bytecode) (lines_text lines)
    bytecodes_told lines are = record {
      image = image;
      effort = effort;
      told = λ mark obeyed.
          let es = replicate n events.Bytecode in
          let next = marks_after (program_of m.image) m.effort es m.state mark in (
            next,
            subst (λ st. Told (setting_of m) m.state mark es (lines_text lines) st next) (sym state)
                (subst (λ ls. Told (setting_of m) m.state mark es (lines_text ls) (run (program_of m.image) es m.state).state next) (sym are) (plain_told (setting_of m) es m.state mark (all_plain n))),
            obeys mark obeyed,
          );
    }

replicate_add : (n m : ℕ) → replicate (n + m) events.Bytecode ≡ replicate n events.Bytecode ++ replicate m events.Bytecode
replicate_add zero m = ap (λ k. replicate k events.Bytecode) (let e : 0 + m ≡ m = omega arith in e)
replicate_add (suc n) m = ap (λ k. replicate k events.Bytecode) (let e : suc n + m ≡ suc (n + m) = omega arith in e) ∙ ap (λ es. events.Bytecode ∷ es) (replicate_add n m)

-- so many bytecodes, of which some are left
pub bytecodes_split : (count left : ℕ) → left ≤ count → replicate count events.Bytecode ≡ replicate (count - left) events.Bytecode ++ replicate left events.Bytecode
bytecodes_split count left few = ap (λ k. replicate k events.Bytecode) (let e : count ≡ count - left + left = omega (arith, few) in e) ∙ replicate_add (count - left) left

-- and of those some ran
pub bytecodes_more : (count left ran : ℕ) → left ≤ count → ran ≤ left → replicate (count - left) events.Bytecode ++ replicate ran events.Bytecode ≡ replicate (count - (left - ran)) events.Bytecode
bytecodes_more count left ran few most =
    sym (replicate_add (count - left) ran) ∙ ap (λ k. replicate k events.Bytecode) (let e : count - left + ran ≡ count - (left - ran) = omega (arith, few, most) in e)

-- ---- counts of faults

-- a rise after a while in which the count didn't fall
pub Rose-later : (a b c : ℕ) → a ≤ b → Rose b c → Rose a c
Rose-later a b c h r = omega arith

-- ---- calls that hand a fault on

pub ran_failed : {T : Type 0} (m m' : MachineViews) (es : List Event) (a b : Option (List ℕ)) (before now : ℕ) (r : Result T Fault) (gathered left text : List ℕ) (f : Fault) → IsErrAnd r (λ e. e ≡ f)
    → HasToldFirst m es text → AppendsFront a b (gathered ++ text) → before ≤ now → IsOfWriting f × (f ≡ Write → Rose before now) → Ran m m' es a b before now r gathered left
ran_failed m m' es a b before now (Ok x) gathered left text f handed first front later cause = absurd handed
ran_failed m m' es a b before now (Err e) gathered left text f handed first front later cause = record {
  ok = tt;
  err = (text, first, front);
  later = later;
  cause = subst (λ x. IsOfWriting x × (x ≡ Write → Rose before now)) (sym handed) cause;
}

-- ---- events whose lines are gathered at once

pub ran_gathered : {T : Type 0} (m m' : MachineViews) (es : List Event) (a b : Option (List ℕ)) (before now : ℕ) (r : Result T Fault) (gathered left text : List ℕ) → HasTold m m' es text
    → Gathers a b before now r gathered left text → Ran m m' es a b before now r gathered left
ran_gathered m m' es a b before now r gathered left text has wrote =
    let first : HasToldFirst m es text = first_all m m' es es [] text (sym (append-nil es)) has in
    record {
      ok = on_ok r (λ w. (text, has, w)) wrote.ok;
      err = on_err r (λ front. (text, first, front)) wrote.err;
      later = wrote.later;
      cause = wrote.cause;
    }
