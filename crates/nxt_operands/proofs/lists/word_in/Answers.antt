-- The number stands behind k others.
use Rattle.std.proofs.Common.{◌≡◌, ◌∙◌, ℕ, List, ◌+◌, ◌*◌, ◌/◌, ◌<◌, ◌≤◌, length, take, drop, sym, ap, arith, length-drop, w64, to_z-of_z}
use Rattle.std.specs.Int.{from_le_bytes}
use Rattle.nxt_types.specs.Arithmetic.{leaf_size, extend, width_of, word}
use Rattle.nxt_types.specs.declared.kind.Kind.{Kind}
use Rattle.nxt_model.specs.Values.{elements, number}
use Rattle.nxt_space.specs.Spots.{numbers_in_bytes}
use Rattle.nxt_space.proofs.Laws.InBytes.{number_fits, numbers_counted, numbers_nth}
use Rattle.nxt_operands.proofs.lists.word_in.Goals as goal

ends : (kind : Kind) (k size : ℕ) (bytes : List ℕ) → k < length (elements (numbers_in_bytes kind bytes)) → size ≡ leaf_size kind → k * size + leaf_size kind ≤ length bytes
ends kind k size bytes less same =
    let fits = number_fits kind k (length bytes) (omega (arith, less, numbers_counted kind bytes)) in
    omega (arith, fits, ap (λ m. k * m) same)

pub overflow_mul-at : goal.overflow_mul-at
overflow_mul-at c =
    let fits = ends c.args.kind c.args.k c.leaf_size.result c.args.bytes.now c.requires c.leaf_size.ensures in
    record { fits = omega (arith, fits, c.type_inv.bytes) }

pub split_at-requires : goal.split_at-requires
split_at-requires c =
    let fits = ends c.args.kind c.args.k c.leaf_size.result c.args.bytes.now c.requires c.leaf_size.ensures in
    omega (arith, fits)

pub first_word-requires : goal.first_word-requires
first_word-requires c =
    let fits = ends c.args.kind c.args.k c.leaf_size.result c.args.bytes.now c.requires c.leaf_size.ensures in
    omega (arith, fits, ap length c.split_at.ensures.back, length-drop (c.args.k * c.leaf_size.result) c.args.bytes.now)

pub returns : goal.returns
returns c =
    let kind = c.args.kind in
    let k = c.args.k in
    let bytes = c.args.bytes.now in
    let less : k < length bytes / leaf_size kind = omega (arith, c.requires, numbers_counted kind bytes) in
    let rest : c.split_at.result.1.now ≡ drop (k * leaf_size kind) bytes = c.split_at.ensures.back ∙ ap (λ n. drop (k * n) bytes) c.leaf_size.ensures in
    let raw = c.first_word.ensures ∙ ap (λ bs. from_le_bytes (width_of kind) (take (leaf_size kind) bs)) rest in
    c.wrap.ensures
    ∙ ap word (to_z-of_z {w = w64} {z = c.extend.result} (record { sfits = c.extend.type_inv }) ∙ c.extend.ensures ∙ ap (extend kind) raw)
    ∙ sym (ap (λ v. word (number v)) (numbers_nth kind bytes k less))
