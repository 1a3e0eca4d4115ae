-- The numbers at the places of elements tell what all of them tell.
use Rattle.std.proofs.Common.{◌+◌, ◌*◌, count_by, subst}
use Rattle.nxt_layout.specs.Inside.RowPasses.{ground_of, numbers_in}
use Rattle.nxt_layout.specs.Inside.Known.{IsNamed}
use Rattle.nxt_layout.proofs.Dope.Through.{named_places}
use Rattle.nxt_layout.proofs.known.names_at.Goals as goal

pub returns : goal.returns
returns c bases are =
    let g = ground_of c.args.space.now in
    let place = c.args.place in
    let ps = c.args.places.now in
    let once = subst (λ xs. IsNamed g (λ p. 0 + 1 * count_by p (numbers_in g place xs)) c.take_at.new.self) c.as_slice.ensures.value (c.take_at.ensures (λ p. 0) c.in_ok-names.ensures) in
    let both = c.take_at-2.ensures (λ p. 0 + 1 * count_by p (numbers_in g place ps.once.items)) once in
    named_places g place bases ps c.take_at-2.new.self are
    (subst (λ xs. IsNamed g (λ p. (0 + 1 * count_by p (numbers_in g place ps.once.items)) + 2 * count_by p (numbers_in g place xs)) c.take_at-2.new.self) c.as_slice-2.ensures.value both)
