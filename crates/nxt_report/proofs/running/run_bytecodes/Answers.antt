-- The lines of bytecodes, gathered and written.
use Rattle.std.proofs.Common.{◌≡◌, ◌≤◌, ◌-◌, ◌++◌, ◌∙◌, ℕ, List, [], Option, sym, ap, subst, arith, replicate, append_assoc}
use Rattle.std.proofs.lemmas.List.{append-nil}
use Rattle.nxt_edge.specs.Edge.{AppendsFront}
use Rattle.nxt_machine.specs.Dumping.{marks_after}
use Rattle.nxt_machine.specs.Machines.{MachineViews, space_of}
use Rattle.nxt_model.specs.Dump.{Mark}
use Rattle.nxt_model.specs.Image.{program_of}
use Rattle.nxt_model.specs.LineText.{lines_text}
use Rattle.nxt_model.specs.Step.{run}
use Rattle.nxt_model.specs.declared.event.Event.TheVariants.{Bytecode}
use Rattle.nxt_model.specs.declared.line.Line.{Line}
use Rattle.nxt_space.specs.Dumping.{Obeys}
use Rattle.nxt_report.specs.Running.{HasTold, HasToldFirst}
use Rattle.nxt_report.specs.Writing.{Wrote}
use Rattle.nxt_report.specs.declared.writing.Fault.TheVariants.{NoMemory}
use Rattle.nxt_report.proofs.Pieces.{Wrote-then, Wrote-failed, Wrote-front, Wrote-start}
use Rattle.nxt_report.proofs.Runs.{Rose-later, bytecodes_more, bytecodes_split, bytecodes_told, first_all, has_told_both, has_told_none, ran_failed}
use Rattle.nxt_report.proofs.running.run_bytecodes.Goals as goal

-- what ran before, and the bytecodes that ran then
module _ (start m m' : MachineViews) (count left ran : ℕ) (few : left ≤ count) (most : ran ≤ left) (image : m'.image ≡ m.image) (effort : m'.effort ≡ m.effort)
    (state : m'.state ≡ (run (program_of m.image) (replicate ran Bytecode) m.state).state)
    (obeys : (mark : Option Mark) → Obeys mark (space_of m) → Obeys (marks_after (program_of m.image) m.effort (replicate ran Bytecode) m.state mark) (space_of m'))
    (before after told : List Line) (none : before ≡ []) (lines : after ≡ before ++ (run (program_of m.image) (replicate ran Bytecode) m.state).lines) (same : told ≡ after)
    (text : List ℕ) (done : HasTold start m (replicate (count - left) Bytecode) text)
  where
    pub more_told : HasTold start m' (replicate (count - (left - ran)) Bytecode) (text ++ lines_text told)
    more_told =
        let ls : told ≡ (run (program_of m.image) (replicate ran Bytecode) m.state).lines = same ∙ (lines ∙ ap (λ (l : List Line). l ++ (run (program_of m.image) (replicate ran Bytecode) m.state).lines) none) in
        subst (λ es. HasTold start m' es (text ++ lines_text told)) (bytecodes_more count left ran few most)
        (has_told_both start m m' (replicate (count - left) Bytecode) (replicate ran Bytecode) text (lines_text told) done (bytecodes_told m m' ran image effort state obeys told ls))

    pub more_first : HasToldFirst start (replicate count Bytecode) (text ++ lines_text told)
    more_first = first_all start m' (replicate count Bytecode) (replicate (count - (left - ran)) Bytecode) (replicate (left - ran) Bytecode) (text ++ lines_text told) (bytecodes_split count (left - ran) (omega (arith, few))) more_told

-- a gathered text with more behind it
behind : (a b : Option (List ℕ)) (gathered text more left : List ℕ) → Wrote a b ((gathered ++ text) ++ more) left → Wrote a b (gathered ++ (text ++ more)) left
behind a b gathered text more left w = subst (λ whole. Wrote a b whole left) (append_assoc gathered text more) w

front_behind : (a b : Option (List ℕ)) (gathered text more : List ℕ) → AppendsFront a b ((gathered ++ text) ++ more) → AppendsFront a b (gathered ++ (text ++ more))
front_behind a b gathered text more w = subst (AppendsFront a b) (append_assoc gathered text more) w

pub loop-left-init : goal.loop-left-init
loop-left-init g c = record {
  ran = (
    [],
    subst (λ (n : ℕ). HasTold c.args.machine.now c.args.machine.now (replicate n Bytecode) []) (let e : 0 ≡ c.args.count - c.args.count = omega arith in e) (has_told_none c.args.machine.now),
    subst (λ whole. Wrote (g.R.Sink.written c.args.report.now) (g.R.Sink.written c.args.report.now) whole c.args.gathered.now) (sym (append-nil c.args.gathered.now)) (Wrote-start (g.R.Sink.written c.args.report.now) c.args.gathered.now),
  );
  few = omega arith;
  lines = c.new-lines.ensures;
  later = omega arith;
}

pub loop-left-preserved : goal.loop-left-preserved
loop-left-preserved g c =
    let is = c.loop-left.invariant in
    let did = c.in_ok-ran.ensures in
    let text = is.ran.0 in
    let told = c.as_slice.result.now in
    record {
      ran = (
        text ++ lines_text told,
        more_told c.args.machine.now c.loop-left.machine c.run.new.self c.args.count c.loop-left.left c.in_ok-ran.ran is.few did.most did.image did.effort did.state did.obeys _ _ told is.lines did.lines c.as_slice.ensures text is.ran.1,
        behind _ _ c.args.gathered.now text (lines_text told) _ (Wrote-then _ _ _ _ _ (lines_text told) _ is.ran.2 c.in_ok-gather.ensures.ok),
      );
      few = let few = is.few in omega (arith, few);
      lines = c.clear.ensures;
      later = let later = c.gather.ensures.later in let before = is.later in omega (arith, later, before);
    }

pub returns-in_err-ran : goal.returns-in_err-ran
returns-in_err-ran g c =
    let is = c.loop-left.invariant in
    let text = is.ran.0 in
    ran_failed _ _ (replicate c.args.count Bytecode) _ _ _ _ c.from_residual.result c.args.gathered.now _ text NoMemory c.from_residual.ensures.1
    (first_all c.args.machine.now c.loop-left.machine _ (replicate (c.args.count - c.loop-left.left) Bytecode) (replicate c.loop-left.left Bytecode) text (bytecodes_split c.args.count c.loop-left.left is.few) is.ran.1)
    (Wrote-front _ _ _ _ is.ran.2)
    is.later
    (tt, λ other. absurd cc)

pub returns-in_err-gather : goal.returns-in_err-gather
returns-in_err-gather g c =
    let is = c.loop-left.invariant in
    let did = c.in_ok-ran.ensures in
    let text = is.ran.0 in
    let told = c.as_slice.result.now in
    let later = c.in_err-gather.ensures.later in
    let before = is.later in
    ran_failed _ _ (replicate c.args.count Bytecode) _ _ _ _ c.from_residual-in_err-gather.result c.args.gathered.now _ (text ++ lines_text told) c.in_err-gather.field-0.0 c.from_residual-in_err-gather.ensures.1
    (more_first c.args.machine.now c.loop-left.machine c.run.new.self c.args.count c.loop-left.left c.in_ok-ran.ran is.few did.most did.image did.effort did.state did.obeys _ _ told is.lines did.lines c.as_slice.ensures text is.ran.1)
    (front_behind _ _ c.args.gathered.now text (lines_text told) (Wrote-failed _ _ _ _ _ (lines_text told) is.ran.2 c.in_err-gather.ensures.err))
    (omega (arith, later, before))
    (c.in_err-gather.ensures.cause.0, λ failed. Rose-later _ _ _ is.later (c.in_err-gather.ensures.cause.1 failed))
