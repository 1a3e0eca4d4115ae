use Rattle.std.proofs.Common.{◌≡◌, false, true, length, sym, ◌∙◌, refl, ap, subst, arith, Some}
use Rattle.std.proofs.lemmas.List.{length-drop}
use Rattle.nxt_types.specs.Opcodes.{arity, takes, has_comparison}
use Rattle.nxt_types.specs.Statements.{Statement}
use Rattle.nxt_types.specs.declared.kind.Cmp.TheVariants.{Lt}
use Rattle.nxt_instr.specs.Decoded.{instr_of}
use Rattle.nxt_instr.proofs.SpelledLaws.{found, nothing, rest_within}
use Rattle.nxt_instr.proofs.decoding.decode.Goals as goal

pub returns-in-Some-clause-found : goal.returns-in-Some-clause-found
returns-in-Some-clause-found c =
    let f = found c.args.words.now c.args.at c.in-Some.found.0 c.in-Some.found.1 c.in-Some.ensures in
    f.spelled ∙ ap (λ (s : Statement). Some (s, c.in-Some.found.1)) (sym f.same)

pub returns-in-Some-clause-fields : goal.returns-in-Some-clause-fields
returns-in-Some-clause-fields c =
    let f = found c.args.words.now c.args.at c.in-Some.found.0 c.in-Some.found.1 c.in-Some.ensures in
    f.held ∙ ap (instr_of c.args.at) (sym f.same)

pub returns-in-Some-clause-within : goal.returns-in-Some-clause-within
returns-in-Some-clause-within c =
    let f = found c.args.words.now c.args.at c.in-Some.found.0 c.in-Some.found.1 c.in-Some.ensures in
    let left = f.lies.within in
    let all = length-drop c.args.at c.args.words.now in
    omega arith

pub returns-in-Some-clause-some : goal.returns-in-Some-clause-some
returns-in-Some-clause-some c = (found c.args.words.now c.args.at c.in-Some.found.0 c.in-Some.found.1 c.in-Some.ensures).lies.some

pub returns-in-Some-clause-whole : goal.returns-in-Some-clause-whole
returns-in-Some-clause-whole c =
    let f = found c.args.words.now c.args.at c.in-Some.found.0 c.in-Some.found.1 c.in-Some.ensures in
    let rest = rest_within c.args.words.now c.args.at c.in-Some.found.0 c.in-Some.found.1 f in
    let left = f.lies.within in
    let all = length-drop c.args.at c.args.words.now in
    record {
      rest = omega (arith, rest, left, all, c.requires.inside);
      number = subst (λ (s : Statement). takes (arity s.op) (length s.args) ≡ true) (sym f.same) f.lies.number;
    }

pub returns-in-Some-clause-plain : goal.returns-in-Some-clause-plain
returns-in-Some-clause-plain c =
    let f = found c.args.words.now c.args.at c.in-Some.found.0 c.in-Some.found.1 c.in-Some.ensures in
    subst (λ (s : Statement). has_comparison s.op ≡ false → s.cmp ≡ Lt) (sym f.same) f.lies.plain

pub returns-in-None-clause-fault : goal.returns-in-None-clause-fault
returns-in-None-clause-fault c = (refl, nothing c.args.words.now c.args.at c.in-None.ensures)
