-- So many numbers are few enough to be stored.
use Rattle.std.proofs.Common.{◌≡◌, ℕ, List, ◌-◌, ◌*◌, ◌<◌, ◌^◌, take, drop, length, subst, arith}
use Rattle.nxt_types.specs.Arithmetic.{leaf_size}
use Rattle.nxt_types.specs.declared.kind.Kind.{Kind}
use Rattle.nxt_model.specs.Values.{Value}
use Rattle.std.proofs.lemmas.List.Elements.{All-take, All-drop}
use Rattle.nxt_model.specs.Values.{elements}
use Rattle.nxt_space.specs.Variables.{value_of}
use Rattle.nxt_lists.specs.Joined.{GivesNumbers}
use Rattle.nxt_lists.specs.Pieces.{pieces_of}
use Rattle.nxt_lists.proofs.JoinedNumbers.{list_then, rest_few}
use Rattle.nxt_lists.proofs.NumberLists.{bytes_counted}
use Rattle.nxt_lists.proofs.joining.store_joined.Goals as goal

few_there : (k : Kind) (count : ℕ) (vs : List Value) → count ≡ length vs → count * leaf_size k < 2 ^ 31 → length vs * leaf_size k < 2 ^ 31
few_there k count vs counted few = subst (λ n. n * leaf_size k < 2 ^ 31) counted few

pub extend_numbers-requires-clause-numbers : goal.extend_numbers-requires-clause-numbers
extend_numbers-requires-clause-numbers c =
    let sources = c.args.sources.now in
    let gives = GivesNumbers c.args.space.now.vars c.args.to.kind in
    All-take gives (length sources - 1) (drop 1 sources) (All-drop gives 1 sources c.requires.numbers)

pub extend_numbers-requires-clause-few : goal.extend_numbers-requires-clause-few
extend_numbers-requires-clause-few c =
    let s = c.args.space.now.vars in
    let i = c.args.dest in
    let sources = c.args.sources.now in
    let vs = pieces_of s i sources in
    let few = few_there c.args.to.kind c.args.count vs c.requires.count c.in_ok-check_many.ensures.few in
    let first = list_then s i c.args.to sources c.requires.dest c.in-len1-up.len_at_least c.if-first-dest.true in
    rest_few c.args.to.kind vs (elements (value_of s i)) (pieces_of s i (take (length sources - 1) (drop 1 sources))) first few

pub store_numbers-requires-clause-small : goal.store_numbers-requires-clause-small
store_numbers-requires-clause-small c =
    let s = c.args.space.now.vars in
    let i = c.args.dest in
    let vs = pieces_of s i c.args.sources.now in
    let few = few_there c.args.to.kind c.args.count vs c.requires.count c.in_ok-check_many.ensures.few in
    omega (arith, bytes_counted c.in_ok-bytes-in_default.ensures, few)
