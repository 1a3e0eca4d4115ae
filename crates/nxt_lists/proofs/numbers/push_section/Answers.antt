-- The section ends among the list's bytes.
use Rattle.std.proofs.Common.{◌*◌, ◌≤◌, ◌++◌, length, sym, ap, ◌∙◌, subst, arith}
use Rattle.std.specs.Prelude.{slice_range}
use Rattle.std.proofs.lemmas.Result.{on_ok_weaker}
use Rattle.nxt_types.specs.Arithmetic.{leaf_size}
use Rattle.nxt_model.specs.Values.{elements}
use Rattle.nxt_space.specs.Variables.{value_of}
use Rattle.nxt_lists.specs.InBytes.{AreStored}
use Rattle.nxt_lists.proofs.NumberSections.{section_fits, section_stored, more_stored}
use Rattle.nxt_lists.proofs.numbers.push_section.Goals as goal

pub overflow_mul-from : goal.overflow_mul-from
overflow_mul-from c =
    let v = value_of c.args.space.now.vars c.requires.list.0 in
    let size = c.leaf_size-size.ensures ∙ ap leaf_size c.kind.ensures in
    let is = c.bytes-held.ensures.value c.requires.list.0 c.requires.list.1 in
    let fits = section_fits c.args.list.kind c.bytes-held.result.now v c.leaf_size-size.result c.args.from is size (omega (arith, c.requires.ordered, c.requires.list.2)) in
    omega (arith, fits, c.bytes-held.ensures.short)

pub overflow_mul-end : goal.overflow_mul-end
overflow_mul-end c =
    let v = value_of c.args.space.now.vars c.requires.list.0 in
    let size = c.leaf_size-size.ensures ∙ ap leaf_size c.kind.ensures in
    let is = c.bytes-held.ensures.value c.requires.list.0 c.requires.list.1 in
    let fits = section_fits c.args.list.kind c.bytes-held.result.now v c.leaf_size-size.result c.args.end is size c.requires.list.2 in
    omega (arith, fits, c.bytes-held.ensures.short)

pub slice_bounds-append-end : goal.slice_bounds-append-end
slice_bounds-append-end c =
    let v = value_of c.args.space.now.vars c.requires.list.0 in
    let size = c.leaf_size-size.ensures ∙ ap leaf_size c.kind.ensures in
    let is = c.bytes-held.ensures.value c.requires.list.0 c.requires.list.1 in
    let fits = section_fits c.args.list.kind c.bytes-held.result.now v c.leaf_size-size.result c.args.end is size c.requires.list.2 in
    omega (arith, fits)

pub returns-clause-numbers : goal.returns-clause-numbers
returns-clause-numbers c i vs mine before =
    let v = value_of c.args.space.now.vars i in
    let k = c.args.list.kind in
    let held = c.bytes-held.result.now in
    let size = c.leaf_size-size.ensures ∙ ap leaf_size c.kind.ensures in
    let is = c.bytes-held.ensures.value i mine in
    let few : c.args.end ≤ length (elements v) =
    subst
    (λ u. c.args.end ≤ length (elements u))
    (c.bytes-held.ensures.value c.requires.list.0 c.requires.list.1 ∙ sym is)
    c.requires.list.2
    in
    let part = section_stored k held v c.args.from c.args.end c.bytes-held.ensures.whole is c.requires.ordered few in
    on_ok_weaker
    c.append.result
    (λ more. subst (λ bytes. AreStored k bytes (vs ++ slice_range (elements v) c.args.from c.args.end))
    (sym (more ∙ ap (λ n. c.args.into.now ++ slice_range held (c.args.from * n) (c.args.end * n)) size))
    (more_stored k c.args.into.now (slice_range held (c.args.from * leaf_size k) (c.args.end * leaf_size k)) vs (slice_range (elements v) c.args.from c.args.end) before part))
    c.append.ensures.ok
