-- The numbers at the places tell what those of all elements tell.
use Rattle.std.proofs.Common.{rules, flat_map, refl}
use Rattle.std.proofs.lemmas.Result.{IfOk-weaker}
use Rattle.std.specs.Rc.{rc_slice_items}
use Rattle.nxt_layout.specs.Rows.{elements_of}
use Rattle.nxt_layout.specs.Inside.RowPasses.{ground_of, numbers_in, tallied}
use Rattle.nxt_layout.specs.Inside.Known.{ArePlacesOf}
use Rattle.nxt_layout.proofs.Dope.Through.{told_in, same_count}
use Rattle.nxt_layout.proofs.known.Elements.find.Goals.{in-Some, in-None+in_ok-places-in-None}
use Rattle.nxt_layout.proofs.known.Elements.find.Goals as goal

pub returns-clause-found : goal.returns-clause-found
returns-clause-found c =
    let g = ground_of c.args.space.now in
    let bases = flat_map (elements_of g) (rc_slice_items c.args.self.now.rows) in
    let numbers = numbers_in g c.args.place bases in
    let places : ArePlacesOf bases c.match-take.places =
    elim c.match-take.branch [
      | in-Some w ↦ search rules
      | in-None+in_ok-places-in-None w ↦ search rules
    ]
    in
    IfOk-weaker c.found_of.result _ _
    (λ f told. told_in g c.args.place bases (tallied numbers) c.count_of-lists.result f (λ p. refl) (same_count g c.count_of-lists.result c.as_slice-2.result.now (rc_slice_items c.args.self.now.rows) c.as_slice-2.ensures.value c.count_of-lists.ensures.count) c.count_of-lists.ensures.bound told)
    (c.found_of.ensures (tallied numbers) (c.in_ok-names.ensures bases places))
