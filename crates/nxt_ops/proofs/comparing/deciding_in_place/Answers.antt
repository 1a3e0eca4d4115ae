-- The first place where the lists differ decides, or the end of one of them.
use Rattle.std.proofs.Common.{rules, ◌≡◌, ◌-◌, ◌<◌, min, length, drop, get_or, w64, ℤ, pos, to_z, of_z, refl, sym, ap, ap₂, ◌∙◌, subst, arith}
use Rattle.std.proofs.Math.Facts.{to_z-of_z}
use mir.Val.{SFits}
use Rattle.std.proofs.lemmas.List.{length-map}
use Rattle.nxt_types.specs.Arithmetic.{taken}
use Rattle.nxt_model.specs.Values.{Num, number, elements}
use Rattle.nxt_space.specs.Spots.{numbers_in_bytes}
use Rattle.nxt_operands.specs.Numbers.{numbers_in}
use Rattle.nxt_ops.specs.Ops.{deciding_numbers}
use Rattle.nxt_ops.proofs.DecidingNumbers.{here_differ, here_same}
use Rattle.nxt_ops.proofs.DecidingInPlace.{same_decide, shorter_ends, word_taken, number_there}
use Rattle.nxt_ops.proofs.comparing.deciding_in_place.Goals as goal

pub returns-then-eq-2 : goal.returns-then-eq-2
returns-then-eq-2 c =
    let kinds : c.args.k ≡ c.args.l = search rules in
    let bytes : c.args.xs.now ≡ c.args.ys.now = search rules in
    sym (ap₂ (λ k bs. deciding_numbers c.args.signed (numbers_in (numbers_in_bytes c.args.k c.args.xs.now)) (numbers_in (numbers_in_bytes k bs))) (sym kinds) (sym bytes)
    ∙ same_decide c.args.signed (numbers_in (numbers_in_bytes c.args.k c.args.xs.now)))

pub loop-i-init : goal.loop-i-init
loop-i-init c = record { left = refl }

pub returns-then-a-b : goal.returns-then-a-b
returns-then-a-b c =
    let s = c.args.signed in
    let v = numbers_in_bytes c.args.k c.args.xs.now in
    let w = numbers_in_bytes c.args.l c.args.ys.now in
    let i = c.loop-i.i in
    let less : i < length (elements v) = omega (arith, c.loop-i-test.true, c.min-both.ensures, c.count_in-count.ensures.count) in
    let within : i < length (elements w) = omega (arith, c.loop-i-test.true, c.min-both.ensures, c.count_in-other.ensures.count) in
    let x = get_or (numbers_in v) i (pos 0) in
    let y = get_or (numbers_in w) i (pos 0) in
    let fa : SFits w64 c.taken-a.result = record { sfits = c.taken-a.type_inv } in
    let fb : SFits w64 c.taken-b.result = record { sfits = c.taken-b.type_inv } in
    let a : c.taken-a.result ≡ taken s x =
    c.taken-a.ensures.value
    ∙ ap (taken s) (to_z-of_z {w = w64} {z = c.from.result} (record { sfits = c.from.type_inv }) ∙ c.from.ensures ∙ ap pos c.word_in.ensures)
    ∙ word_taken s (number (get_or (elements v) i (Num (pos 0))))
    ∙ ap (taken s) (number_there v i less) in
    let b : c.taken-b.result ≡ taken s y =
    c.taken-b.ensures.value
    ∙ ap (taken s) (to_z-of_z {w = w64} {z = c.from-in-loop-i.result} (record { sfits = c.from-in-loop-i.type_inv }) ∙ c.from-in-loop-i.ensures ∙ ap pos c.word_in-in-loop-i.ensures)
    ∙ word_taken s (number (get_or (elements w) i (Num (pos 0))))
    ∙ ap (taken s) (number_there w i within) in
    ap₂ (λ (m n : ℤ). (m, n)) (to_z-of_z fa ∙ a) (to_z-of_z fb ∙ b)
    ∙ here_differ s (numbers_in v) (numbers_in w) i x y (deciding_numbers s (numbers_in v) (numbers_in w))
    (omega (arith, less, length-map (elements v) number))
    (omega (arith, within, length-map (elements w) number))
    refl
    refl
    (λ same. c.if-a-b.true (ap (of_z w64) (a ∙ same ∙ sym b)))
    c.loop-i.invariant.left

pub loop-i-preserved : goal.loop-i-preserved
loop-i-preserved c =
    let s = c.args.signed in
    let v = numbers_in_bytes c.args.k c.args.xs.now in
    let w = numbers_in_bytes c.args.l c.args.ys.now in
    let i = c.loop-i.i in
    let less : i < length (elements v) = omega (arith, c.loop-i-test.true, c.min-both.ensures, c.count_in-count.ensures.count) in
    let within : i < length (elements w) = omega (arith, c.loop-i-test.true, c.min-both.ensures, c.count_in-other.ensures.count) in
    let x = get_or (numbers_in v) i (pos 0) in
    let y = get_or (numbers_in w) i (pos 0) in
    let fa : SFits w64 c.taken-a.result = record { sfits = c.taken-a.type_inv } in
    let fb : SFits w64 c.taken-b.result = record { sfits = c.taken-b.type_inv } in
    let a : c.taken-a.result ≡ taken s x =
    c.taken-a.ensures.value
    ∙ ap (taken s) (to_z-of_z {w = w64} {z = c.from.result} (record { sfits = c.from.type_inv }) ∙ c.from.ensures ∙ ap pos c.word_in.ensures)
    ∙ word_taken s (number (get_or (elements v) i (Num (pos 0))))
    ∙ ap (taken s) (number_there v i less) in
    let b : c.taken-b.result ≡ taken s y =
    c.taken-b.ensures.value
    ∙ ap (taken s) (to_z-of_z {w = w64} {z = c.from-in-loop-i.result} (record { sfits = c.from-in-loop-i.type_inv }) ∙ c.from-in-loop-i.ensures ∙ ap pos c.word_in-in-loop-i.ensures)
    ∙ word_taken s (number (get_or (elements w) i (Num (pos 0))))
    ∙ ap (taken s) (number_there w i within) in
    let same : taken s x ≡ taken s y = sym a ∙ sym (to_z-of_z fa) ∙ ap (to_z w64) c.if-a-b.false ∙ to_z-of_z fb ∙ b in
    record {
      left = here_same s (numbers_in v) (numbers_in w) i x y (deciding_numbers s (numbers_in v) (numbers_in w))
          (omega (arith, less, length-map (elements v) number))
          (omega (arith, within, length-map (elements w) number))
          refl
          refl
          same
          c.loop-i.invariant.left;
    }

pub returns : goal.returns
returns c =
    let s = c.args.signed in
    let v = numbers_in_bytes c.args.k c.args.xs.now in
    let w = numbers_in_bytes c.args.l c.args.ys.now in
    let both = c.min-both.result in
    let first : to_z w64 (c.count_in-count.result - both) ≡ pos (c.count_in-count.result - both) = search rules in
    let second : to_z w64 (c.count_in-other.result - both) ≡ pos (c.count_in-other.result - both) = search rules in
    let many : c.count_in-count.result ≡ length (numbers_in v) = c.count_in-count.ensures.count ∙ sym (length-map (elements v) number) in
    let others : c.count_in-other.result ≡ length (numbers_in w) = c.count_in-other.ensures.count ∙ sym (length-map (elements w) number) in
    let end : both ≡ min (length (numbers_in v)) (length (numbers_in w)) = c.min-both.ensures ∙ ap₂ min many others in
    let reached : c.loop-i.i ≡ both = omega (arith, c.loop-i-test.false, c.loop-i.auto.i-end) in
    ap₂ (λ (m n : ℤ). (m, n)) (first ∙ ap (λ n. pos (n - both)) many) (second ∙ ap (λ n. pos (n - both)) others)
    ∙ sym (shorter_ends s (numbers_in v) (numbers_in w) both end)
    ∙ subst (λ n. deciding_numbers s (drop n (numbers_in v)) (drop n (numbers_in w)) ≡ deciding_numbers s (numbers_in v) (numbers_in w)) reached c.loop-i.invariant.left
