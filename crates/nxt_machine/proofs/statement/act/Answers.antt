-- Each statement on devices or the clock, by what it is.
use Rattle.std.proofs.Common.{◌≡◌, ℕ, ◌++◌, ◌∷◌, [], Ok, Err, Result, refl, sym, ap, ◌∙◌, subst, arith, append-nil, drop, List, ℤ, w64}
use Rattle.std.specs.Prelude.{OnOk, pos}
use Rattle.std.proofs.lemmas.Int.{to_z_pos}
use Rattle.nxt_types.specs.Arithmetic.{word}
use Rattle.nxt_types.specs.Names.{named}
use Rattle.nxt_types.specs.Statements.{statement_of}
use Rattle.nxt_types.specs.declared.memory.NoMemory.{NoMemory}
use Rattle.nxt_model.specs.Devices.{Devices, Change, changed, set_in, get_in, get_out}
use Rattle.nxt_model.specs.Means.Effects.{Effect}
use Rattle.nxt_model.specs.Values.{Num, stored}
use Rattle.nxt_model.specs.Variables.{Plain, part_of}
use Rattle.nxt_model.specs.declared.line.Line.{Line}
use Rattle.nxt_space.specs.Variables.{Variables, shape_of, with_value}
use Rattle.nxt_operands.proofs.Laws.Named.{named_some}
use Rattle.nxt_sys.specs.Calls.{clock_of}
use Rattle.nxt_machine.specs.Numbers.{number_at, ports_at, set_motors_by}
use Rattle.nxt_machine.specs.Inside.Programs.{IsKept}
use Rattle.nxt_machine.specs.Inside.Statements.{Told, IsDone}
use Rattle.nxt_machine.proofs.Kept.{fit_there, program_kept}
use Rattle.nxt_machine.proofs.Meanings.Acts.{setout_effect, setin_effect, getin_effect, getout_effect, gettick_effect, getin_refers, getout_refers, gettick_refers, ports_fit, port_number, getin_property, getout_property}
use Rattle.nxt_machine.proofs.Meanings.Ended.{devices_done, number_done}
use Rattle.nxt_machine.proofs.Meanings.OfClumps.{input_fits, output_fits, tick_fits}
use Rattle.nxt_machine.proofs.statement.act.Goals as goal

-- with a number stored only values and rows change
kept_by : (s new : Variables) (i : ℕ) (x : ℤ) → new ≡ record s { values = with_value s i (stored (shape_of s i) (Num x)) } → IsKept s new
kept_by s new i x set = subst (λ v. v ≡ record s { values = v.values; rows = v.rows }) (sym set) refl

both_ok : {A B C : Type 0} (r : Result Unit NoMemory) → OnOk r A → OnOk r B → (A → B → C) → OnOk r C
both_ok (Ok x) a b f = f a b
both_ok (Err e) a b f = tt

-- ---- motors

pub set_output-requires-clause-named : goal.set_output-requires-clause-named
set_output-requires-clause-named c =
    let s = c.args.program.now.space.vars in
    let i = c.args.placed.now.instr in
    named_some s i.a (ports_fit s i c.args.program.now.code.words c.in-Setout.is (fit_there c.args.program.now c.requires.program c.requires.at.0 c.args.placed.now c.requires.at.1)).named

pub set_output-requires-clause-plain : goal.set_output-requires-clause-plain
set_output-requires-clause-plain c =
    (ports_fit c.args.program.now.space.vars c.args.placed.now.instr c.args.program.now.code.words c.in-Setout.is (fit_there c.args.program.now c.requires.program c.requires.at.0 c.args.placed.now c.requires.at.1)).has

pub returns-in-Setout-clause-done : goal.returns-in-Setout-clause-done
returns-in-Setout-clause-done c =
    let p = c.args.program.now in
    let s = p.space.vars in
    let i = c.args.placed.now.instr in
    let words = p.code.words in
    let t = clock_of c.args.clock in
    let st = statement_of i words in
    let old : Told = record { vars = s; devices = c.args.io.now; lines = c.args.out.now.lines } in
    let change : List ℕ → Change = λ ws. set_motors_by s (ports_at s i.a) (drop 1 (statement_of i ws).args) c.args.io.now in
    let same = c.words-words.ensures in
    let done = devices_done t st old (change words) c.recall_sound.ensures (setout_effect s i words c.args.io.now t c.in-Setout.is (ports_fit s i words c.in-Setout.is (fit_there c.args.program.now c.requires.program c.requires.at.0 c.args.placed.now c.requires.at.1)).named) in
    both_ok c.set_output.result c.set_output.ensures.devices c.set_output.ensures.lines
    (λ devices lines.
    subst
    (λ (d : Devices). IsDone t st old (record { vars = s; devices = d; lines = c.set_output.new.out.lines }))
    (sym (devices ∙ ap (λ ws. (change ws).devices) same))
    (subst
    (λ (ls : List Line). IsDone t st old (record { vars = s; devices = (change words).devices; lines = ls }))
    (sym (lines ∙ ap (λ ws. old.lines ++ (change ws).lines) same))
    done))

pub returns-in-Setout-clause-numbers : goal.returns-in-Setout-clause-numbers
returns-in-Setout-clause-numbers c works silent =
    let p = c.args.program.now in
    let s = p.space.vars in
    let i = c.args.placed.now.instr in
    let words = p.code.words in
    let named = (ports_fit s i words c.in-Setout.is (fit_there p c.requires.program c.requires.at.0 c.args.placed.now c.requires.at.1)).named in
    let none = sym (ap (λ (e : Effect). e.lines) (setout_effect s i words c.args.io.now (clock_of c.args.clock) c.in-Setout.is named)) ∙ silent in
    c.set_output.ensures.silent (port_number s i words c.in-Setout.is named works)
    (ap (λ ws. (set_motors_by s (ports_at s i.a) (drop 1 (statement_of i ws).args) c.args.io.now).lines) c.words-words.ensures ∙ none)

pub get_output-requires-clause-number : goal.get_output-requires-clause-number
get_output-requires-clause-number c =
    (output_fits c.args.program.now.space.vars c.args.placed.now.instr c.args.program.now.code.words c.in-Getout.is (fit_there c.args.program.now c.requires.program c.requires.at.0 c.args.placed.now c.requires.at.1)).has

pub get_output-requires-clause-property : goal.get_output-requires-clause-property
get_output-requires-clause-property c =
    getout_property c.args.program.now.space.vars c.args.placed.now.instr c.args.program.now.code.words (fit_there c.args.program.now c.requires.program c.requires.at.0 c.args.placed.now c.requires.at.1) c.in-Getout.is

pub returns-in-Getout-clause-done : goal.returns-in-Getout-clause-done
returns-in-Getout-clause-done c =
    let p = c.args.program.now in
    let s = p.space.vars in
    let i = c.args.placed.now.instr in
    let words = p.code.words in
    let d = c.args.io.now in
    let t = clock_of c.args.clock in
    number_done p.space c.get_output.new.space d c.args.out.now.lines t (statement_of i words) i.a (part_of (named s.shapes i.b) ∷ Plain i.c ∷ []) (get_out (word (number_at s i.b)) i.c d) c.recall_sound.ensures
    (output_fits s i words c.in-Getout.is (fit_there c.args.program.now c.requires.program c.requires.at.0 c.args.placed.now c.requires.at.1)) (getout_refers s i words d t c.in-Getout.is) (getout_effect s i words d t c.in-Getout.is) c.get_output.ensures.value

pub returns-in-Getout-clause-program : goal.returns-in-Getout-clause-program
returns-in-Getout-clause-program c =
    let s = c.args.program.now.space.vars in
    program_kept c.args.program.now c.get_output.new.space (kept_by s c.get_output.new.space.vars c.args.placed.now.instr.a _ c.get_output.ensures.value) c.requires.program

-- ---- sensors

pub returns-in-Setin-clause-done : goal.returns-in-Setin-clause-done
returns-in-Setin-clause-done c =
    let p = c.args.program.now in
    let s = p.space.vars in
    let i = c.args.placed.now.instr in
    let words = p.code.words in
    let d = c.args.io.now in
    let t = clock_of c.args.clock in
    let st = statement_of i words in
    let old : Told = record { vars = s; devices = d; lines = c.args.out.now.lines } in
    let after = set_in (word (number_at s i.b)) i.c (number_at s i.a) d in
    subst
    (λ (e : Devices). IsDone t st old (record { vars = s; devices = e; lines = c.args.out.now.lines }))
    (sym c.set_input.ensures)
    (subst
    (λ (ls : List Line). IsDone t st old (record { vars = s; devices = after; lines = ls }))
    (append-nil c.args.out.now.lines)
    (devices_done t st old (changed after []) c.recall_sound.ensures (setin_effect s i words d t c.in-Setin.is)))

pub get_input-requires-clause-number : goal.get_input-requires-clause-number
get_input-requires-clause-number c =
    (input_fits c.args.program.now.space.vars c.args.placed.now.instr c.args.program.now.code.words c.in-Getin.is (fit_there c.args.program.now c.requires.program c.requires.at.0 c.args.placed.now c.requires.at.1)).has

pub get_input-requires-clause-property : goal.get_input-requires-clause-property
get_input-requires-clause-property c =
    getin_property c.args.program.now.space.vars c.args.placed.now.instr c.args.program.now.code.words (fit_there c.args.program.now c.requires.program c.requires.at.0 c.args.placed.now c.requires.at.1) c.in-Getin.is

pub returns-in-Getin-clause-done : goal.returns-in-Getin-clause-done
returns-in-Getin-clause-done c =
    let p = c.args.program.now in
    let s = p.space.vars in
    let i = c.args.placed.now.instr in
    let words = p.code.words in
    let d = c.args.io.now in
    let t = clock_of c.args.clock in
    number_done p.space c.get_input.new.space d c.args.out.now.lines t (statement_of i words) i.a (part_of (named s.shapes i.b) ∷ Plain i.c ∷ []) (get_in (word (number_at s i.b)) i.c d) c.recall_sound.ensures
    (input_fits s i words c.in-Getin.is (fit_there c.args.program.now c.requires.program c.requires.at.0 c.args.placed.now c.requires.at.1)) (getin_refers s i words d t c.in-Getin.is) (getin_effect s i words d t c.in-Getin.is) c.get_input.ensures.value

pub returns-in-Getin-clause-program : goal.returns-in-Getin-clause-program
returns-in-Getin-clause-program c =
    let s = c.args.program.now.space.vars in
    program_kept c.args.program.now c.get_input.new.space (kept_by s c.get_input.new.space.vars c.args.placed.now.instr.a _ c.get_input.ensures.value) c.requires.program

-- ---- the clock

pub set-requires : goal.set-requires
set-requires c = (tick_fits c.args.program.now.space.vars c.args.placed.now.instr c.args.program.now.code.words c.in-Gettick.is (fit_there c.args.program.now c.requires.program c.requires.at.0 c.args.placed.now c.requires.at.1)).has

pub returns-in-Gettick-clause-done : goal.returns-in-Gettick-clause-done
returns-in-Gettick-clause-done c =
    let p = c.args.program.now in
    let s = p.space.vars in
    let i = c.args.placed.now.instr in
    let words = p.code.words in
    let d = c.args.io.now in
    let t = clock_of c.args.clock in
    let now = to_z_pos w64 c.args.clock.now (let small = c.requires.clock in omega (arith, small)) in
    number_done p.space c.set.new.self d c.args.out.now.lines t (statement_of i words) i.a [] (pos c.args.clock.now) c.recall_sound.ensures
    (tick_fits s i words c.in-Gettick.is (fit_there c.args.program.now c.requires.program c.requires.at.0 c.args.placed.now c.requires.at.1)) (gettick_refers s i words d t c.in-Gettick.is) (gettick_effect s i words d t c.in-Gettick.is)
    (c.set.ensures.value ∙ ap (λ z. record s { values = with_value s i.a (stored (shape_of s i.a) (Num z)) }) now)

pub returns-in-Gettick-clause-program : goal.returns-in-Gettick-clause-program
returns-in-Gettick-clause-program c =
    let s = c.args.program.now.space.vars in
    program_kept c.args.program.now c.set.new.self (kept_by s c.set.new.self.vars c.args.placed.now.instr.a _ c.set.ensures.value) c.requires.program
