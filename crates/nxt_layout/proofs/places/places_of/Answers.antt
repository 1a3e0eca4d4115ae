-- The elements of one row more.
use Rattle.std.proofs.Common.{ℕ, ◌<◌, ◌+◌, take, flat_map, length, sym, ◌∙◌, subst}
use Rattle.std.proofs.lemmas.List.{take_all}
use Rattle.std.proofs.lemmas.Result.{IfOk-weaker}
use Rattle.nxt_layout.specs.Rows.{elements_of}
use Rattle.nxt_layout.specs.Inside.RowPasses.{ground_of, times}
use Rattle.nxt_layout.specs.Inside.Known.{IsWalked}
use Rattle.nxt_facts.proofs.Each.{Each}
use Rattle.nxt_layout.proofs.Dope.Places.{walked_as, elements_next, are_places, elements_placed}
use Rattle.nxt_layout.proofs.places.places_of.Goals as goal

pub loop-row-preserved : goal.loop-row-preserved
loop-row-preserved c =
    let g = ground_of c.args.space.now in
    let rows = c.args.rows.now in
    let k = c.loop-row.row-index in
    let before = λ (q : ℕ). times q (flat_map (elements_of g) (take k rows)) in
    record {
      walked = walked_as _ (λ q. times q (flat_map (elements_of g) (take (k + 1) rows))) c.take_row.new.self (λ q. elements_next g rows k q c.loop-row-test.true) (c.take_row.ensures.walked before c.loop-row.invariant.walked);
      count = c.take_row.ensures.count ∙ c.loop-row.invariant.count;
    }

pub returns : goal.returns
returns c =
    let g = ground_of c.args.space.now in
    let rows = c.args.rows.now in
    let bases = flat_map (elements_of g) rows in
    let walk = c.loop-row.walk in
    let all : IsWalked (λ q. times q bases) walk =
    subst (λ rs. IsWalked (λ q. times q (flat_map (elements_of g) rs)) walk) (take_all c.loop-row.row-index rows c.loop-row-test.false) c.loop-row.invariant.walked in
    IfOk-weaker c.places.result _ _
    (λ p h. are_places bases p (length walk.times.items) (subst (λ n. Each (λ q. q < n) bases) (sym c.loop-row.invariant.count) (elements_placed g rows c.requires)) h)
    (c.places.ensures (λ q. times q bases) all)
