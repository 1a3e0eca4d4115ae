-- What a value gives for a list.
use Rattle.std.proofs.Common.{◌++◌, length, sym, ap, ◌∙◌, flat_map, arith}
use Rattle.std.proofs.lemmas.List.{append-nil}
use Rattle.nxt_model.specs.Values.{elements, flat}
use Rattle.nxt_space.specs.Variables.{shape_of, value_of}
use Rattle.nxt_lists.proofs.Between.{front_count, one_piece}
use Rattle.nxt_lists.proofs.ListElements.{in_parts, whole_piece}
use Rattle.nxt_lists.proofs.gathering.push_pieces.Goals as goal

pub push_elements-requires-clause-of_list : goal.push_elements-requires-clause-of_list
push_elements-requires-clause-of_list c =
    let s = c.args.space.now.vars in
    let other = sym c.is_element.ensures ∙ c.if-not-is_element.true in
    (in_parts (shape_of s c.args.list) (shape_of s c.args.value) (value_of s c.args.value) c.requires.of_list other c.requires.fit).list

pub returns-then-not-is_element-clause-count : goal.returns-then-not-is_element-clause-count
returns-then-not-is_element-clause-count c =
    let s = c.args.space.now.vars in
    let other = sym c.is_element.ensures ∙ c.if-not-is_element.true in
    let v = value_of s c.args.value in
    let parts = in_parts (shape_of s c.args.list) (shape_of s c.args.value) v c.requires.of_list other c.requires.fit in
    front_count (elements v) _ c.length_of.result c.args.most c.min-count.result parts.is c.length_of.ensures c.min-count.ensures

pub returns-clause-count : goal.returns-clause-count
returns-clause-count c =
    let s = c.args.space.now.vars in
    let fits = sym c.is_element.ensures ∙ c.if-not-is_element.false in
    let v = value_of s c.args.value in
    let whole = whole_piece (shape_of s c.args.list) (shape_of s c.args.value) v c.requires.of_list fits in
    sym (ap length (one_piece v _ c.args.most whole.is (omega arith)))

pub returns-clause-flat : goal.returns-clause-flat
returns-clause-flat c =
    let s = c.args.space.now.vars in
    let fits = sym c.is_element.ensures ∙ c.if-not-is_element.false in
    let v = value_of s c.args.value in
    let whole = whole_piece (shape_of s c.args.list) (shape_of s c.args.value) v c.requires.of_list fits in
    c.in_ok-push_value.ensures
    ∙ ap (λ zs. c.args.flat.now ++ zs) (sym (append-nil (flat v)))
    ∙ ap (λ vs. c.args.flat.now ++ flat_map flat vs) (sym (one_piece v _ c.args.most whole.is (omega arith)))
