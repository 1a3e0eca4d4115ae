use Rattle.std.proofs.Common.{◌≡◌, pos, get_or, refl, arith}
use Rattle.std.proofs.lemmas.Int.{ints}
use Rattle.nxt_script.proofs.row.button.Goals as goal
use mir.Syntax.{w64}
use mir.Val.{to_z, of_z}

pub overflow_cast-result : goal.overflow_cast-result
overflow_cast-result c = (let w = c.in_ok-index.ensures.within 0 _ refl in omega (arith, ints), let w = c.in_ok-index.ensures.within 0 _ refl in omega (arith, ints))

pub overflow_cast-result-2 : goal.overflow_cast-result-2
overflow_cast-result-2 c = (let w = c.in_ok-index.ensures.within 1 _ refl in omega (arith, ints), let w = c.in_ok-index.ensures.within 1 _ refl in omega (arith, ints))

pub overflow_cast-result-3 : goal.overflow_cast-result-3
overflow_cast-result-3 c = (let w = c.in_ok-index.ensures.within 2 _ refl in omega (arith, ints), let w = c.in_ok-index.ensures.within 2 _ refl in omega (arith, ints))

pub returns : goal.returns
returns c =
    let w0 = c.in_ok-index.ensures.within 0 _ refl in
    let x0 = get_or c.in_ok-index.field-0 0 (pos 0) in
    let e0 : to_z w64 (of_z w64 x0) ≡ x0 = omega (arith, ints) in
    let w1 = c.in_ok-index.ensures.within 1 _ refl in
    let x1 = get_or c.in_ok-index.field-0 1 (pos 0) in
    let e1 : to_z w64 (of_z w64 x1) ≡ x1 = omega (arith, ints) in
    let w2 = c.in_ok-index.ensures.within 2 _ refl in
    let x2 = get_or c.in_ok-index.field-0 2 (pos 0) in
    let e2 : to_z w64 (of_z w64 x2) ≡ x2 = omega (arith, ints) in
    rw (← c.in_ok-index.ensures.value) (rw (e0, e1, e2) refl)
