-- One element more is taken, or some that stand where two do.
use Rattle.std.proofs.Common.{◌≡◌, ℕ, ◌<◌, ◌≤◌, ◌*◌, ◌+◌, ◌-◌, ap, ap₂, subst, ◌∙◌, arith}
use Rattle.nxt_layout.specs.Rows.{row}
use Rattle.nxt_facts.specs.Places.{places_from}
use Rattle.nxt_layout.specs.Inside.RowPasses.{ground_of, times}
use Rattle.nxt_layout.specs.Inside.Known.{IsWalked}
use Rattle.nxt_layout.proofs.Dope.Places.{walked_full, walked_on, same_end, small_step}
use Rattle.nxt_layout.proofs.places.Walk.take_row.Goals as goal

-- so many more are taken
taken : (n left f : ℕ) → f ≤ left → left ≤ n → n - left + f ≡ n - (left - f)
taken n left f h k = omega (arith, h, k)

behind : (p n left f s : ℕ) → f ≤ left → left ≤ n → (p + (n - left) * s) + f * s ≡ p + (n - (left - f)) * s
behind p n left f s h k =
    let parts : (p + (n - left) * s) + f * s ≡ p + (n - left + f) * s = omega arith in
    parts ∙ ap (λ m. p + m * s) (taken n left f h k)

pub loop-left-preserved-then-full-gt0 : goal.loop-left-preserved-then-full-gt0
loop-left-preserved-then-full-gt0 c =
    let old = c.loop-left.invariant in
    let at = c.loop-left.at in
    let left = c.loop-left.left in
    let stride = c.stride-stride.result in
    let full = c.min-full.result in
    let r = row (ground_of c.args.space.now) c.args.row in
    let within : full ≤ left = omega (arith, c.min-full.ensures) in
    let next : at + c.from.result * c.from-then-full-gt0.result ≡ at + full * stride =
    ap₂ (λ (m n : ℕ). at + m * n) c.from.ensures c.from-then-full-gt0.ensures in
    record {
      walked = λ count h.
          let before = λ (q : ℕ). count q + times q (places_from r.place stride (r.count - left)) in
          let w = c.full_from.ensures.walked before (old.walked count h) in
          let more = walked_full before at stride full c.full_from.new.self w (λ k less. c.full_from.ensures.full before (old.walked count h) k (omega (arith, less, c.min-full.ensures))) in
          subst (λ n. IsWalked (λ q. count q + times q (places_from r.place stride n)) c.full_from.new.self) (taken r.count left full within old.fewer)
          (walked_on count r.place stride (r.count - left) full c.full_from.new.self at old.here more);
      here = next ∙ ap (λ p. p + full * stride) old.here ∙ behind r.place r.count left full stride within old.fewer;
      end = ap (λ p. p + (left - full) * stride) next ∙ same_end at full left stride within ∙ old.end;
      small = omega (arith, next, small_step at full left stride r.count within old.fewer (omega (arith, c.stride-stride.type_inv)) old.small);
      fewer = omega (arith, old.fewer);
      count = c.full_from.ensures.count ∙ old.count;
      steps = c.full_from.ensures.steps ∙ old.steps;
    }

pub loop-left-preserved : goal.loop-left-preserved
loop-left-preserved c =
    let old = c.loop-left.invariant in
    let at = c.loop-left.at in
    let left = c.loop-left.left in
    let stride = c.stride-stride.result in
    let r = row (ground_of c.args.space.now) c.args.row in
    let some : 0 < left = omega (arith, c.loop-left-test.true) in
    let one : 1 ≤ left = omega (arith, some) in
    let next : at + c.from-at-else-full-gt0.result ≡ at + 1 * stride = omega (arith, c.from-at-else-full-gt0.ensures) in
    record {
      walked = λ count h.
          let before = λ (q : ℕ). count q + times q (places_from r.place stride (r.count - left)) in
          let w = c.full_from.ensures.walked before (old.walked count h) in
          subst (λ n. IsWalked (λ q. count q + times q (places_from r.place stride n)) c.take.new.self) (taken r.count left 1 one old.fewer)
          (walked_on count r.place stride (r.count - left) 1 c.take.new.self at old.here (c.take.ensures.walked before w));
      here = next ∙ ap (λ p. p + 1 * stride) old.here ∙ behind r.place r.count left 1 stride one old.fewer;
      end = ap (λ p. p + (left - 1) * stride) next ∙ same_end at 1 left stride one ∙ old.end;
      small = omega (arith, next, small_step at 1 left stride r.count one old.fewer (omega (arith, c.stride-stride.type_inv)) old.small);
      fewer = omega (arith, old.fewer);
      count = c.take.ensures.count ∙ c.full_from.ensures.count ∙ old.count;
      steps = c.take.ensures.steps ∙ c.full_from.ensures.steps ∙ old.steps;
    }

pub returns-clause-walked : goal.returns-clause-walked
returns-clause-walked c count h =
    let r = row (ground_of c.args.space.now) c.args.row in
    let none : r.count - c.loop-left.left ≡ r.count = omega (arith, c.loop-left-test.false) in
    let stride : c.stride-stride.result ≡ r.stride = c.stride-stride.ensures in
    subst (λ s. IsWalked (λ q. count q + times q (places_from r.place s r.count)) c.loop-left.self) stride
    (subst (λ n. IsWalked (λ q. count q + times q (places_from r.place c.stride-stride.result n)) c.loop-left.self) none (c.loop-left.invariant.walked count h))
