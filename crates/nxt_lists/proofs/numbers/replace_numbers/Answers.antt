-- What stays in front, what is new, and what stays behind.
use Rattle.std.proofs.Common.{◌≡◌, ◌+◌, ◌%◌, [], ◌++◌, length, sym, ◌∙◌, subst}
use Rattle.std.specs.Prelude.{slice_range}
use Rattle.nxt_types.specs.Arithmetic.{leaf_size}
use Rattle.nxt_model.specs.Means.Arrays.{overwritten}
use Rattle.nxt_model.specs.Values.{elements}
use Rattle.nxt_space.specs.Variables.{value_of}
use Rattle.nxt_lists.specs.InBytes.{AreStored}
use Rattle.nxt_lists.proofs.NumberSections.{none_stored, overwritten_joined}
use Rattle.nxt_lists.proofs.numbers.replace_numbers.Goals as goal

pub store_numbers-requires-clause-whole : goal.store_numbers-requires-clause-whole
store_numbers-requires-clause-whole c =
    let s = c.args.space.now.vars in
    let j = c.requires.from.0 in
    let m = c.requires.new.0 in
    let k = c.args.spots.1.kind in
    let other = c.requires.kind ∙ sym c.requires.new_kind in
    let front = slice_range (elements (value_of s j)) 0 c.min-from.result in
    let middle = slice_range (elements (value_of s m)) 0 c.min-count.result in
    let one = c.in_ok-push_section.ensures.numbers j [] c.requires.from.1 (none_stored k c.new-bytes.result c.new-bytes.ensures) in
    let two = c.in_ok-push_section-2.ensures.numbers m front c.requires.new.1 (subst (λ q. AreStored q c.push_section.new.into front) other one) in
    let three = c.in_ok-push_section-3.ensures.numbers j (front ++ middle) c.requires.from.1 (subst (λ q. AreStored q c.push_section-2.new.into (front ++ middle)) (sym other) two) in
    subst (λ q. length c.push_section-3.new.into % leaf_size q ≡ 0) c.requires.kind three.whole

pub returns-clause-does : goal.returns-clause-does
returns-clause-does c i j m mine theirs others =
    let s = c.args.space.now.vars in
    let k = c.args.spots.1.kind in
    let xs = elements (value_of s j) in
    let ys = elements (value_of s m) in
    let long = c.count-length.result in
    let from = c.min-from.result in
    let count = c.min-count.result in
    let other = c.requires.kind ∙ sym c.requires.new_kind in
    let front = slice_range xs 0 from in
    let middle = slice_range ys 0 count in
    let back = slice_range xs (from + count) long in
    let one = c.in_ok-push_section.ensures.numbers j [] theirs (none_stored k c.new-bytes.result c.new-bytes.ensures) in
    let two = c.in_ok-push_section-2.ensures.numbers m front others (subst (λ q. AreStored q c.push_section.new.into front) other one) in
    let three = c.in_ok-push_section-3.ensures.numbers j (front ++ middle) theirs (subst (λ q. AreStored q c.push_section-2.new.into (front ++ middle)) (sym other) two) in
    let all = subst (λ q. AreStored q c.push_section-3.new.into (front ++ middle ++ back)) c.requires.kind three in
    let joined = overwritten_joined xs ys c.args.k long from c.count.result count (c.count-length.ensures j theirs) c.min-from.ensures (c.count.ensures m others) c.min-count.ensures in
    c.store_numbers.ensures.does i (overwritten xs c.args.k ys) mine (subst (AreStored c.args.spots.0.kind c.push_section-3.new.into) joined all)
