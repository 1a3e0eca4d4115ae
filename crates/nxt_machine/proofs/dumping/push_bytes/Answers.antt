-- A line of 64 bytes, and the lines behind it.
use Rattle.std.proofs.Common.{◌≡◌, ◌+◌, ◌<◌, ◌++◌, ◌∷◌, [], length, refl, ◌∙◌, sym, ap, arith, append-nil, append_assoc}
use Rattle.std.proofs.lemmas.Bool.Decides.{nat_tests}
use Rattle.nxt_model.specs.Dump.{bytes_lines}
use Rattle.nxt_model.specs.declared.line.Line.TheVariants.{Bytes}
use Rattle.nxt_machine.proofs.Dumped.{one_line, no_line}
use Rattle.nxt_machine.proofs.dumping.push_bytes.Goals as goal

pub loop-rest-init : goal.loop-rest-init
loop-rest-init c = record { lines = refl; place = omega arith }

pub overflow_add-at : goal.overflow_add-at
overflow_add-at c =
    let whole = c.loop-rest.invariant.place in
    let more = c.split_at.ensures.back_len in
    record { fits = omega (arith, whole, more, c.split_at.ensures.front_len, c.requires) }

pub loop-rest-smaller : goal.loop-rest-smaller
loop-rest-smaller c =
    let some : 0 < length c.loop-rest.rest.now = grind (arith, nat_tests, c.is_empty.ensures, c.loop-rest-test.true) in
    omega (arith, some, c.min.ensures, c.split_at.ensures.back_len)

pub loop-rest-preserved : goal.loop-rest-preserved
loop-rest-preserved c =
    let is = c.loop-rest.invariant in
    let rest = c.loop-rest.rest.now in
    let now = c.split_at.result.0.now in
    let later = c.split_at.result.1.now in
    let some : 0 < length rest = grind (arith, nat_tests, c.is_empty.ensures, c.loop-rest-test.true) in
    let line = one_line c.loop-rest.at rest now later c.min.result c.min.ensures c.split_at.ensures.front c.split_at.ensures.back some in
    let told = c.in_ok-append.ensures.ok ∙ ap (λ bs. bs ++ now) c.new-line.ensures in
    record {
      lines =
          ap (λ ls. ls ++ bytes_lines (length later) (c.loop-rest.at + length now) later) (c.in_ok-push.ensures.items ∙ ap (λ bs. c.loop-rest.lines.items ++ Bytes c.loop-rest.at bs ∷ []) told)
          ∙ append_assoc c.loop-rest.lines.items (Bytes c.loop-rest.at now ∷ []) (bytes_lines (length later) (c.loop-rest.at + length now) later)
          ∙ ap (λ ls. c.loop-rest.lines.items ++ ls) (sym line)
          ∙ is.lines;
      place = let whole = is.place in omega (arith, whole, c.split_at.ensures.back_len, c.split_at.ensures.front_len);
    }

pub returns : goal.returns
returns c =
    let rest = c.loop-rest.rest.now in
    let none : length rest ≡ 0 = grind (arith, nat_tests, c.is_empty.ensures, c.loop-rest-test.false) in
    sym (append-nil c.loop-rest.lines.items)
    ∙ ap (λ ls. c.loop-rest.lines.items ++ ls) (sym (no_line c.loop-rest.at rest none))
    ∙ c.loop-rest.invariant.lines
