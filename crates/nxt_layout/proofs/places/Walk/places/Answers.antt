-- One place more.
use Rattle.std.proofs.Common.{◌≡◌, ◌+◌, ◌*◌, ◌<◌, count_by, length, ap, sym, subst, ◌∙◌, arith, slice_index}
use Rattle.std.proofs.lemmas.List.{get_or_default}
use Rattle.nxt_facts.specs.Sums.{sum_below}
use Rattle.nxt_layout.specs.Inside.RowPasses.{few, bit_of}
use Rattle.nxt_layout.proofs.Dope.Places.{place_more, sum_next}
use Rattle.nxt_layout.proofs.places.Walk.places.Goals.{then-times-eq1+in_ok-push, else-times-eq1+then-times-gt1+in_ok-push-2, else-times-eq1+else-times-gt1}
use Rattle.nxt_layout.proofs.places.Walk.places.Goals as goal

pub loop-at-preserved : goal.loop-at-preserved
loop-at-preserved c = record {
  standing = λ count h t.
      let at = c.loop-at.at in
      let once = c.loop-at.once.items in
      let often = c.loop-at.often.items in
      let items = c.args.self.now.times.items in
      let times = c.index-times.result.now in
      let less : at < length items = omega (arith, c.loop-at-test.true, c.len-at-end.ensures) in
      let value : times ≡ slice_index items at = c.index-times.ensures ∙ get_or_default items at times 0 less in
      let few_is : few (count at) ≡ times = sym (value ∙ h.counts at less) in
      let place : c.in-Ok.place ≡ at = c.in-Ok.ensures.1 in
      let before = c.loop-at.invariant.standing count h t in
      elim c.if-times-eq1.branch [
        | then-times-eq1+in_ok-push w ↦ sum_next (λ q. few (count q)) t at 1 _ _ before (omega (arith, few_is, w.if-times-eq1.true))
            (omega (arith, ap (λ v. count_by t v.items) w.once-is, ap (λ v. count_by t v.items) w.often-is, ap (count_by t) w.in_ok-push.ensures.items, place_more t once c.in-Ok.place, ap (λ q. bit_of (t q)) place))
        | else-times-eq1+then-times-gt1+in_ok-push-2 w ↦ sum_next (λ q. few (count q)) t at 2 _ _ before (omega (arith, few_is, w.if-times-gt1.true))
            (omega (arith, ap (λ v. count_by t v.items) w.once-is, ap (λ v. count_by t v.items) w.often-is, ap (count_by t) w.in_ok-push-2.ensures.items, place_more t often c.in-Ok.place, ap (λ q. bit_of (t q)) place))
        | else-times-eq1+else-times-gt1 w ↦ sum_next (λ q. few (count q)) t at 0 _ _ before (omega (arith, few_is, w.if-times-gt1.false, w.if-times-eq1.false))
            (omega (arith, ap (λ v. count_by t v.items) w.once-is, ap (λ v. count_by t v.items) w.often-is))
      ];
}

pub returns : goal.returns
returns c count h t =
    let all : c.loop-at.at ≡ length c.args.self.now.times.items = omega (arith, c.loop-at-test.false, c.loop-at.auto.at-end, c.len-at-end.ensures) in
    subst (λ n. count_by t c.loop-at.once.items + 2 * count_by t c.loop-at.often.items ≡ sum_below (λ q. few (count q) * bit_of (t q)) n) all (c.loop-at.invariant.standing count h t)
