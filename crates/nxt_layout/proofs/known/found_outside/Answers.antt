-- The number outside is that of one element at 0.
use Rattle.std.proofs.Common.{◌≡◌, ℕ, Bool, ◌+◌, ◌*◌, ◌≤◌, ◌^◌, [], ◌∷◌, refl, ap, ◌∙◌, sym, arith}
use Rattle.std.proofs.lemmas.Result.{IfOk-weaker}
use Rattle.nxt_types.specs.Bytes.{u16_at}
use Rattle.nxt_layout.specs.Inside.RowPasses.{ground_of, numbers_in, few, bit_of, tallied}
use Rattle.nxt_layout.proofs.Dope.Places.{one_number}
use Rattle.nxt_layout.proofs.Dope.Through.{told_in}
use Rattle.nxt_layout.proofs.known.found_outside.Goals as goal

zero_more : (n : ℕ) → n ≡ 0 + n
zero_more n = omega arith

one_time : (n m : ℕ) → n ≡ m → 0 + 1 * n ≡ m
one_time n m e = omega (arith, e)

pub found_of-requires : goal.found_of-requires
found_of-requires c = (c.take.ensures (ground_of c.args.space.now) (λ p. 0) c.in_ok-names.ensures).size

pub returns : goal.returns
returns c =
    let g = ground_of c.args.space.now in
    let n = c.number_at.result in
    let count = λ (p : ℕ → Bool). 0 + 1 * bit_of (p n) in
    let number : n ≡ u16_at g.memory.bytes (0 + c.args.place) = c.number_at.ensures ∙ ap (u16_at g.memory.bytes) (zero_more c.args.place) in
    let one : 1 ≤ 2 ^ 33 = omega arith in
    IfOk-weaker c.found_of.result _ _
    (λ f told. told_in g c.args.place (0 ∷ []) count 1 f
    (λ p. ap few (one_time (bit_of (p n)) (tallied (numbers_in g c.args.place (0 ∷ [])) p) (ap (λ m. bit_of (p m)) number ∙ sym (one_number p (u16_at g.memory.bytes (0 + c.args.place))))))
    refl one told)
    (c.found_of.ensures count (c.take.ensures g (λ p. 0) c.in_ok-names.ensures))
