-- Each operator stores what its statement means.
use Rattle.std.proofs.Common.{◌≡◌, sym, ◌∙◌, subst, ap}
use Rattle.nxt_types.specs.declared.instr.Op.TheVariants as ops
use Rattle.nxt_model.specs.Values.{stored}
use Rattle.nxt_space.specs.Outcomes.{Does}
use Rattle.nxt_space.specs.Variables.{shape_of, with_value}
use Rattle.nxt_operands.specs.Operands.{Done, given}
use Rattle.nxt_operands.proofs.Laws.Named.{named_some}
use Rattle.nxt_ops.proofs.Fitting.{two_fit, one_fit, mov_fit, set_fit}
use Rattle.nxt_ops.proofs.Meanings.{two_means, one_means, mov_means}
use Rattle.nxt_ops.proofs.OnLists.{IsComparison, compared_value, comparison_of_lists, change_of_list, moves}
use Rattle.nxt_ops.proofs.run.compute.Goals as goal

-- ---- two values

pub combine_lists-requires-clause-dest : goal.combine_lists-requires-clause-dest
combine_lists-requires-clause-dest c =
    let s = c.args.space.now.vars in
    let i = c.args.i.now in
    named_some s i.a (two_fit s i c.in-Some.operator (sym c.two_of.ensures ∙ c.in-Some.is) c.requires.fit).first

pub combine_lists-requires-clause-x : goal.combine_lists-requires-clause-x
combine_lists-requires-clause-x c =
    let s = c.args.space.now.vars in
    let i = c.args.i.now in
    named_some s i.b (two_fit s i c.in-Some.operator (sym c.two_of.ensures ∙ c.in-Some.is) c.requires.fit).second

pub combine_lists-requires-clause-y : goal.combine_lists-requires-clause-y
combine_lists-requires-clause-y c =
    let s = c.args.space.now.vars in
    let i = c.args.i.now in
    named_some s i.c (two_fit s i c.in-Some.operator (sym c.two_of.ensures ∙ c.in-Some.is) c.requires.fit).third

pub combine_lists-requires-clause-fit : goal.combine_lists-requires-clause-fit
combine_lists-requires-clause-fit c =
    let s = c.args.space.now.vars in
    let i = c.args.i.now in
    (two_fit s i c.in-Some.operator (sym c.two_of.ensures ∙ c.in-Some.is) c.requires.fit).asked

pub returns-in-Some-clause-does : goal.returns-in-Some-clause-does
returns-in-Some-clause-does c d t =
    let s = c.args.space.now.vars in
    let i = c.args.i.now in
    let o = c.in-Some.operator in
    let is = sym c.two_of.ensures ∙ c.in-Some.is in
    subst (λ v. Does Done v c.args.space.now c.combine_lists.result c.combine_lists.new.space) (sym (two_means s i d t o is (two_fit s i o is c.requires.fit))) c.combine_lists.ensures.does

-- ---- comparisons of lists

compared : (c : goal.After-store_comparison-arg-then-is_number-1) → IsComparison c.args.space.now.vars c.args.i.now c.in-Some.operator (shape_of c.args.space.now.vars c.args.i.now.b) (shape_of c.args.space.now.vars c.args.i.now.c)
compared c =
    let s = c.args.space.now.vars in
    let i = c.args.i.now in
    let is = sym c.two_of.ensures ∙ c.in-Some.is in
    comparison_of_lists s i c.in-Some.operator is (sym c.is_number.ensures ∙ c.if-is_number.true) (two_fit s i c.in-Some.operator is c.requires.fit).asked c.requires.lists

pub store_comparison-requires-clause-x : goal.store_comparison-requires-clause-x
store_comparison-requires-clause-x c =
    let s = c.args.space.now.vars in
    let i = c.args.i.now in
    named_some s i.b (two_fit s i c.in-Some.operator (sym c.two_of.ensures ∙ c.in-Some.is) c.requires.fit).second

pub store_comparison-requires-clause-y : goal.store_comparison-requires-clause-y
store_comparison-requires-clause-y c =
    let s = c.args.space.now.vars in
    let i = c.args.i.now in
    named_some s i.c (two_fit s i c.in-Some.operator (sym c.two_of.ensures ∙ c.in-Some.is) c.requires.fit).third

pub store_comparison-requires-clause-plain : goal.store_comparison-requires-clause-plain
store_comparison-requires-clause-plain c = (compared c).plain

pub store_comparison-requires-clause-list : goal.store_comparison-requires-clause-list
store_comparison-requires-clause-list c = (compared c).list

pub store_comparison-requires-clause-fit : goal.store_comparison-requires-clause-fit
store_comparison-requires-clause-fit c = (compared c).alike

pub returns-then-is_number-clause-does : goal.returns-then-is_number-clause-does
returns-then-is_number-clause-does c d t =
    let s = c.args.space.now.vars in
    let i = c.args.i.now in
    let o = c.in-Some.operator in
    let is = sym c.two_of.ensures ∙ c.in-Some.is in
    let number = sym c.is_number.ensures ∙ c.if-is_number.true in
    let fit = two_fit s i o is c.requires.fit in
    let lists = comparison_of_lists s i o is number fit.asked c.requires.lists in
    let value = compared_value o i.cmp (shape_of s i.a) (given s i.b) (given s i.c) lists.operator number in
    subst (λ v. Does Done v c.args.space.now c.store_comparison.result c.store_comparison.new.space)
    (sym (two_means s i d t o is fit ∙ ap (λ v. with_value s i.a (stored (shape_of s i.a) v)) value))
    c.store_comparison.ensures.does

-- ---- one value

pub map_list-requires-clause-dest : goal.map_list-requires-clause-dest
map_list-requires-clause-dest c =
    let s = c.args.space.now.vars in
    let i = c.args.i.now in
    named_some s i.a (one_fit s i c.in-Some-one_of.operator (sym c.one_of.ensures ∙ c.in-Some-one_of.is) c.requires.fit).first

pub map_list-requires-clause-x : goal.map_list-requires-clause-x
map_list-requires-clause-x c =
    let s = c.args.space.now.vars in
    let i = c.args.i.now in
    named_some s i.b (one_fit s i c.in-Some-one_of.operator (sym c.one_of.ensures ∙ c.in-Some-one_of.is) c.requires.fit).second

pub map_list-requires-clause-plain : goal.map_list-requires-clause-plain
map_list-requires-clause-plain c =
    let s = c.args.space.now.vars in
    let i = c.args.i.now in
    (one_fit s i c.in-Some-one_of.operator (sym c.one_of.ensures ∙ c.in-Some-one_of.is) c.requires.fit).asked_first

pub map_list-requires-clause-fit : goal.map_list-requires-clause-fit
map_list-requires-clause-fit c =
    let s = c.args.space.now.vars in
    let i = c.args.i.now in
    (one_fit s i c.in-Some-one_of.operator (sym c.one_of.ensures ∙ c.in-Some-one_of.is) c.requires.fit).asked_second

pub map_list-requires-clause-list : goal.map_list-requires-clause-list
map_list-requires-clause-list c =
    let s = c.args.space.now.vars in
    let i = c.args.i.now in
    let o = c.in-Some-one_of.operator in
    let is = sym c.one_of.ensures ∙ c.in-Some-one_of.is in
    change_of_list s i o is (one_fit s i o is c.requires.fit).asked_second c.requires.lists

pub returns-in-Some-one_of-clause-does : goal.returns-in-Some-one_of-clause-does
returns-in-Some-one_of-clause-does c d t =
    let s = c.args.space.now.vars in
    let i = c.args.i.now in
    let o = c.in-Some-one_of.operator in
    let is = sym c.one_of.ensures ∙ c.in-Some-one_of.is in
    subst (λ v. Does Done v c.args.space.now c.map_list.result c.map_list.new.space) (sym (one_means s i d t o is (one_fit s i o is c.requires.fit))) c.map_list.ensures.does

-- ---- moves

is_mov : (c : goal.After-copy-arg-1) → c.args.i.now.op ≡ ops.Mov
is_mov c =
    let s = c.args.space.now.vars in
    let i = c.args.i.now in
    moves s i c.requires.runs c.requires.stores (sym c.two_of.ensures ∙ c.in_default.is) (sym c.one_of.ensures ∙ c.in_default-one_of.is)
    (λ set. (set_fit s i set c.requires.fit).has) c.requires.lists

pub copy-requires-clause-dest : goal.copy-requires-clause-dest
copy-requires-clause-dest c = named_some c.args.space.now.vars c.args.i.now.a (mov_fit c.args.space.now.vars c.args.i.now (is_mov c) c.requires.fit).first

pub copy-requires-clause-source : goal.copy-requires-clause-source
copy-requires-clause-source c = named_some c.args.space.now.vars c.args.i.now.b (mov_fit c.args.space.now.vars c.args.i.now (is_mov c) c.requires.fit).second

pub copy-requires-clause-fit : goal.copy-requires-clause-fit
copy-requires-clause-fit c = (mov_fit c.args.space.now.vars c.args.i.now (is_mov c) c.requires.fit).asked_second

pub returns-clause-does : goal.returns-clause-does
returns-clause-does c d t =
    let s = c.args.space.now.vars in
    let i = c.args.i.now in
    let mov =
    moves s i c.requires.runs c.requires.stores (sym c.two_of.ensures ∙ c.in_default.is) (sym c.one_of.ensures ∙ c.in_default-one_of.is)
    (λ set. (set_fit s i set c.requires.fit).has) c.requires.lists in
    let fit = mov_fit s i mov c.requires.fit in
    subst (λ v. Does Done v c.args.space.now c.copy.result c.copy.new.space) (sym (mov_means s i d t mov fit.first fit.second)) c.copy.ensures.does
