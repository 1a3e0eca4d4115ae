use Rattle.std.proofs.Common.{sym, ◌∙◌, codes}
use Rattle.nxt_script.proofs.Names.{named, no_form}
use Rattle.nxt_script.proofs.row.row_of_numbers.Goals as goal

pub returns-then-eq : goal.returns-then-eq
returns-then-eq c = named c.args.name.now (codes "run") _ _ (sym c.eq.ensures ∙ c.if-eq.true) c.run.ensures

pub returns-then-eq-2 : goal.returns-then-eq-2
returns-then-eq-2 c = named c.args.name.now (codes "tick") _ _ (sym c.eq-else-eq.ensures ∙ c.if-eq-2.true) c.tick.ensures

pub returns-then-eq-3 : goal.returns-then-eq-3
returns-then-eq-3 c = named c.args.name.now (codes "reading") _ _ (sym c.eq-else-eq-2.ensures ∙ c.if-eq-3.true) c.reading.ensures

pub returns-then-eq-4 : goal.returns-then-eq-4
returns-then-eq-4 c = named c.args.name.now (codes "tacho") _ _ (sym c.eq-else-eq-3.ensures ∙ c.if-eq-4.true) c.tacho.ensures

pub returns-then-eq-5 : goal.returns-then-eq-5
returns-then-eq-5 c = named c.args.name.now (codes "button") _ _ (sym c.eq-else-eq-4.ensures ∙ c.if-eq-5.true) c.button.ensures

pub returns-then-eq-6 : goal.returns-then-eq-6
returns-then-eq-6 c = named c.args.name.now (codes "battery") _ _ (sym c.eq-else-eq-5.ensures ∙ c.if-eq-6.true) c.battery.ensures

pub returns-then-eq-7 : goal.returns-then-eq-7
returns-then-eq-7 c = named c.args.name.now (codes "random") _ _ (sym c.eq-else-eq-6.ensures ∙ c.if-eq-7.true) c.random.ensures

pub returns-then-eq-8 : goal.returns-then-eq-8
returns-then-eq-8 c = named c.args.name.now (codes "compact") _ _ (sym c.eq-else-eq-7.ensures ∙ c.if-eq-8.true) c.compact.ensures

pub returns-then-eq-9 : goal.returns-then-eq-9
returns-then-eq-9 c = named c.args.name.now (codes "dump") _ _ (sym c.eq-else-eq-8.ensures ∙ c.if-eq-9.true) c.dump.ensures

pub returns-else-eq-9 : goal.returns-else-eq-9
returns-else-eq-9 c =
    no_form c.args.name.now _
    (sym c.eq.ensures ∙ c.if-eq.false)
    (sym c.eq-else-eq.ensures ∙ c.if-eq-2.false)
    (sym c.eq-else-eq-2.ensures ∙ c.if-eq-3.false)
    (sym c.eq-else-eq-3.ensures ∙ c.if-eq-4.false)
    (sym c.eq-else-eq-4.ensures ∙ c.if-eq-5.false)
    (sym c.eq-else-eq-5.ensures ∙ c.if-eq-6.false)
    (sym c.eq-else-eq-6.ensures ∙ c.if-eq-7.false)
    (sym c.eq-else-eq-7.ensures ∙ c.if-eq-8.false)
    (sym c.eq-else-eq-8.ensures ∙ c.if-eq-9.false)
