-- What is kept is right, and so is what is found anew and kept from then on.
use Rattle.std.proofs.Common.{◌≡◌, sym, subst, flat_map}
use Rattle.std.proofs.lemmas.Result.{IfOk-weaker}
use Rattle.std.specs.Rc.{rc_slice_items}
use Rattle.nxt_layout.specs.Rows.{elements_of}
use Rattle.nxt_layout.specs.Inside.RowPasses.{ground_of}
use Rattle.nxt_layout.specs.Inside.Known.{Key, IsFoundIn}
use Rattle.nxt_layout.proofs.Dope.Through.{same_found}
use Rattle.nxt_layout.proofs.known.Known.find.Goals as goal

pub returns-in-Some-clause-found : goal.returns-in-Some-clause-found
returns-in-Some-clause-found c =
    let g = ground_of c.args.space.now in
    let key : Key = (c.args.place, c.in_ok-clone.field-0) in
    let found = c.in-Some.found.now in
    let rows : rc_slice_items key.1 ≡ rc_slice_items c.args.elements.now.rows = c.in_ok-clone.ensures.cases in
    let right : IsFoundIn g key.0 (flat_map (elements_of g) (rc_slice_items key.1)) found =
    c.requires.known key found (sym c.in-Some.ensures.value) in
    IfOk-weaker c.share.result _ _
    (λ f same. same_found g c.args.place _ found f same (subst (λ rs. IsFoundIn g c.args.place (flat_map (elements_of g) rs) found) rows right))
    c.share.ensures

pub returns-clause-known : goal.returns-clause-known
returns-clause-known c =
    let g = ground_of c.args.space.now in
    c.in_ok-keep.ensures g c.requires.known
    (subst (λ rs. IsFoundIn g c.args.place (flat_map (elements_of g) rs) c.in_ok-found.found) (sym c.in_ok-clone.ensures.cases) c.in_ok-found.ensures.found)
