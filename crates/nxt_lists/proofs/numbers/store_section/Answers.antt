-- The section's numbers are all that is stored.
use Rattle.std.proofs.Common.{◌≡◌, ◌%◌, [], length, subst}
use Rattle.std.specs.Prelude.{slice_range}
use Rattle.nxt_types.specs.Arithmetic.{leaf_size}
use Rattle.nxt_model.specs.Values.{elements}
use Rattle.nxt_space.specs.Variables.{value_of}
use Rattle.nxt_lists.specs.InBytes.{AreStored}
use Rattle.nxt_lists.proofs.NumberSections.{none_stored}
use Rattle.nxt_lists.proofs.numbers.store_section.Goals as goal

pub store_numbers-requires-clause-whole : goal.store_numbers-requires-clause-whole
store_numbers-requires-clause-whole c =
    let k = c.args.list.kind in
    let e = c.in_ok-push_section.ensures.numbers c.requires.list.0 [] c.requires.list.1 (none_stored k c.new-bytes.result c.new-bytes.ensures) in
    subst (λ j. length c.push_section.new.into % leaf_size j ≡ 0) c.requires.kind e.whole

pub returns-clause-does : goal.returns-clause-does
returns-clause-does c i j mine theirs =
    let k = c.args.list.kind in
    let vs = slice_range (elements (value_of c.args.space.now.vars j)) c.args.from c.args.end in
    let e = c.in_ok-push_section.ensures.numbers j [] theirs (none_stored k c.new-bytes.result c.new-bytes.ensures) in
    c.store_numbers.ensures.does i vs mine (subst (λ l. AreStored l c.push_section.new.into vs) c.requires.kind e)
