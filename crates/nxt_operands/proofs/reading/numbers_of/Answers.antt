-- Behind their number stand the numbers.
use Rattle.std.proofs.Common.{length, drop, take, ◌-◌, ◌++◌, ap, ◌∙◌}
use Rattle.std.specs.Prelude.{pos}
use Rattle.nxt_space.specs.Variables.{value_of}
use Rattle.nxt_operands.specs.Numbers.{numbers_in}
use Rattle.nxt_operands.proofs.Laws.NumberLists.{flat_numbers, behind_first}
use Rattle.nxt_operands.proofs.reading.numbers_of.Goals as goal

pub returns : goal.returns
returns c =
    let v = value_of c.args.space.now.vars c.args.i in
    let whole = c.as_slice.result.now in
    behind_first
    (pos (length (numbers_in v)))
    (numbers_in v)
    whole
    c.append.new.self
    (c.as_slice.ensures ∙ c.in_ok-flat.ensures ∙ flat_numbers v c.requires.list)
    (c.in_ok-append.ensures.ok ∙ ap (λ zs. zs ++ take (length whole - 1) (drop 1 whole)) c.new-numbers.ensures)
