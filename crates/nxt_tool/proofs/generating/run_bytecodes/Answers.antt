-- Some of the bytecodes that are left.
use Rattle.std.proofs.Common.{◌≡◌, ◌-◌, ℕ, List, arith, replicate, subst}
use Rattle.nxt_model.specs.declared.event.Event.{Event}
use Rattle.nxt_model.specs.declared.event.Event.TheVariants.{Bytecode}
use Rattle.nxt_tool.proofs.RunRows.{Leads, bytecodes_left, leads_all, leads_more}
use Rattle.nxt_tool.proofs.generating.run_bytecodes.Goals as goal

pub loop-left-preserved : goal.loop-left-preserved
loop-left-preserved c =
    let did = c.in_ok-ran.ensures in
    let start = c.args.machine.now in
    let all : List Event = replicate c.args.count Bytecode in
    leads_more start c.loop-left.machine c.run.new.self c.args.lines.now.lines c.loop-left.lines.lines c.run.new.out.lines all (replicate c.in_ok-ran.ran Bytecode) (replicate (c.loop-left.left - c.in_ok-ran.ran) Bytecode)
    (subst (λ (es : List Event). Leads start c.args.lines.now.lines all c.loop-left.machine c.loop-left.lines.lines es) (bytecodes_left c.loop-left.left c.in_ok-ran.ran did.most) c.loop-left.invariant)
    (record { image = did.image; state = did.state; lines = did.lines })

pub returns : goal.returns
returns c =
    let none : c.loop-left.left ≡ 0 = let all = c.loop-left-test.false in omega (arith, all) in
    leads_all c.args.machine.now c.loop-left.machine c.args.lines.now.lines c.loop-left.lines.lines (replicate c.args.count Bytecode)
    (subst (λ (n : ℕ). Leads c.args.machine.now c.args.lines.now.lines (replicate c.args.count Bytecode) c.loop-left.machine c.loop-left.lines.lines (replicate n Bytecode)) none c.loop-left.invariant)
