use Rattle.std.proofs.Common.{◌≡◌, ◌+◌, ◌≤◌, inl, inr, take, drop, length, get_or, ap, sym, ◌∙◌, arith}
use Rattle.std.proofs.lemmas.Grind.{same_number_lists}
use Rattle.std.proofs.lemmas.List.{get_or-take, get_or-drop}
use Rattle.nxt_facts.specs.PutAt.{put_at}
use Rattle.nxt_facts.proofs.PutAt.{length-put_at, put_at-before, put_at-inside, put_at-behind, put_at-cases}
use Rattle.nxt_heap.proofs.Windows.{length-window}
use Rattle.nxt_heap.proofs.blocks.copy_part.Goals as goal

pub returns : goal.returns
returns c =
    let old = c.args.pool.now in
    let new = c.copy_within.new.self in
    let from = c.args.from in
    let to = c.args.to in
    let bs = take c.args.bytes (drop from old) in
    let long : length bs ≡ c.args.bytes = length-window old from c.args.bytes c.requires.from in
    let fits : to + length bs ≤ length old = omega (arith, long, c.requires.to) in
    same_number_lists new (put_at to bs old) (c.copy_within.ensures.len ∙ sym (length-put_at to bs old fits)) (λ k below.
    elim (put_at-cases to c.args.bytes k) [
      | inl low ↦ c.copy_within.ensures.by_index.1 k 0 low ∙ sym (put_at-before to bs old k 0 fits low)
      | inr rest ↦ elim rest [
        | inl high ↦ c.copy_within.ensures.by_index.2 k 0 (omega (arith, high)) ∙ sym (put_at-behind to bs old k 0 fits (omega (arith, high, long)))
        | inr at ↦
            let j = at.0 in
            c.copy_within.ensures.by_index.0 k 0 (omega (arith, at.2)) (omega (arith, at.1, at.2))
            ∙ ap (λ i. get_or old i 0) (omega (arith, at.2))
            ∙ sym (get_or-take c.args.bytes (drop from old) j 0 at.1 ∙ get_or-drop from old j 0)
            ∙ sym (put_at-inside to bs old j 0 fits (omega (arith, at.1, long)))
            ∙ ap (λ i. get_or (put_at to bs old) i 0) (sym at.2)
      ]
    ])
