-- One number more is taken.
use Rattle.std.proofs.Common.{rules, ◌≡◌, ℕ, Bool, ◌+◌, ◌*◌, take, count_by, ap, ◌∙◌, arith}
use Rattle.nxt_layout.specs.Inside.RowPasses.{ground_of, numbers_in, few, bit_of}
use Rattle.nxt_layout.proofs.Dope.Places.{numbers_next}
use Rattle.nxt_layout.proofs.Dope.Through.{named_alike}
use Rattle.nxt_layout.proofs.names.Names.take_at.Goals as goal

sum_more : (c t k n b : ℕ) → n ≡ k + b → (c + t * k) + t * b ≡ c + t * n
sum_more c t k n b e = let same : t * (k + b) ≡ t * k + t * b = omega arith in omega (arith, ap (λ m. t * m) e, same)

pub loop-at-preserved : goal.loop-at-preserved
loop-at-preserved c = record {
  named = λ count h.
      let g = ground_of c.args.space.now in
      let place = c.args.place in
      let places = c.args.places.now in
      let k = c.loop-at.at-index in
      let t = c.args.times in
      let before = λ (p : ℕ → Bool). count p + t * count_by p (numbers_in g place (take k places)) in
      let after = λ (p : ℕ → Bool). count p + t * count_by p (numbers_in g place (take (k + 1) places)) in
      named_alike g (λ p. before p + t * bit_of (p c.number_at.result)) after c.take.new.self
      (λ p. ap few (sum_more (count p) t (count_by p (numbers_in g place (take k places))) (count_by p (numbers_in g place (take (k + 1) places))) (bit_of (p c.number_at.result))
      (numbers_next g place p places k c.loop-at-test.true ∙ ap (λ n. count_by p (numbers_in g place (take k places)) + bit_of (p n)) (search rules))))
      (c.take.ensures g before (c.loop-at.invariant.named count h));
}
