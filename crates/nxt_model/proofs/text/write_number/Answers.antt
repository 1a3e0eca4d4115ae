-- The digits of a number, and its sign before them.
use Rattle.std.proofs.Common.{◌≡◌, ◌+◌, ◌-◌, ◌^◌, ◌<◌, ◌≤◌, ◌∷◌, ◌++◌, ℤ, pos, negsuc, true, ℕ, drop, length, decimal, refl, sym, ap, ◌∙◌, w64, arith}
use Rattle.std.specs.Prelude.{unsigned_abs, int_lt}
use Rattle.std.proofs.Math.Facts.{to_z-of_z}
use Rattle.std.proofs.lemmas.Fmt.{length-decimal-le}
use Rattle.std.proofs.lemmas.Int.{ints}
use Rattle.std.proofs.lemmas.Grind.{drop-set_at}
use Rattle.nxt_model.specs.Means.Text.{number_text}
use Rattle.nxt_model.proofs.text.write_number.Goals as goal

few : (n : ℕ) → n ≤ 2 ^ 63 → length (decimal n) ≤ 20
few n bound = length-decimal-le 20 n (omega arith) (omega (arith, bound)) (omega (arith, bound))

pub write_digits-start-requires : goal.write_digits-start-requires
write_digits-start-requires c =
    let short = few c.unsigned_abs.result c.unsigned_abs.ensures.bound in
    let room = c.requires.room in
    (omega (arith, short, room), c.requires.within)

pub overflow_sub-buffer : goal.overflow_sub-buffer
overflow_sub-buffer c =
    let short = few c.unsigned_abs.result c.unsigned_abs.ensures.bound in
    let room = c.requires.room in
    let starts = c.write_digits-start.ensures.start in
    omega (arith, short, room, starts)

pub overflow_sub-result : goal.overflow_sub-result
overflow_sub-result c =
    let short = few c.unsigned_abs.result c.unsigned_abs.ensures.bound in
    let room = c.requires.room in
    let starts = c.write_digits-start.ensures.start in
    omega (arith, short, room, starts)

pub returns-then-number-lt0-clause-start : goal.returns-then-number-lt0-clause-start
returns-then-number-lt0-clause-start c =
    let short = few c.unsigned_abs.result c.unsigned_abs.ensures.bound in
    let room = c.requires.room in
    let starts = c.write_digits-start.ensures.start in
    omega (arith, short, room, starts)

pub returns-clause-start : goal.returns-clause-start
returns-clause-start c =
    let short = few c.unsigned_abs.result c.unsigned_abs.ensures.bound in
    let starts = c.write_digits-start.ensures.start in
    omega (arith, short, starts)

below_none : (n : ℕ) → int_lt (pos n) (pos 0) ≡ true → ⊥
below_none n e = grind (arith, ints)

-- a number below 0 is its digits behind a sign
with_sign : (z : ℤ) → int_lt z (pos 0) ≡ true → number_text z ≡ 45 ∷ decimal (unsigned_abs z)
with_sign (pos n) e = absurd (below_none n e)
with_sign (negsuc n) e = refl

pub returns-then-number-lt0-clause-written : goal.returns-then-number-lt0-clause-written
returns-then-number-lt0-clause-written c =
    let short = few c.unsigned_abs.result c.unsigned_abs.ensures.bound in
    let room = c.requires.room in
    let starts = c.write_digits-start.ensures.start in
    let at = c.write_digits-start.result - 1 in
    let buffer = c.write_digits-start.new.buf in
    let same = to_z-of_z {w = w64} {z = c.args.number} c.ranges.number in
    let less : int_lt c.args.number (pos 0) ≡ true = ap (λ z. int_lt z (pos 0)) (sym same) ∙ c.if-number-lt0.true in
    let digits : c.unsigned_abs.result ≡ unsigned_abs c.args.number = c.unsigned_abs.ensures.value ∙ ap unsigned_abs same in
    let inside : at < length buffer = omega (arith, short, room, starts, c.requires.within) in
    let behind : at + 1 ≡ c.write_digits-start.result = omega (arith, short, room, starts) in
    drop-set_at buffer at at 45 refl inside
    ∙ ap (λ n. 45 ∷ drop n buffer) behind
    ∙ ap (λ xs. 45 ∷ xs) c.write_digits-start.ensures.written
    ∙ ap (λ n. 45 ∷ decimal n ++ drop c.args.end c.args.buffer.now) digits
    ∙ ap (λ xs. xs ++ drop c.args.end c.args.buffer.now) (sym (with_sign c.args.number less))
