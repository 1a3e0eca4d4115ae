-- A row has a list exactly where it is one above 0 with a stride.
use Rattle.std.proofs.Common.{◌≡◌, ◌<◌, ◌∙◌, Option, Some, None, IsSome, refl, sym, ap, arith}
use Rattle.nxt_rows.specs.Rows.{row_count}
use Rattle.nxt_heap.specs.Lists.{ByteList, list_at, stride_at, stride_of}
use Rattle.nxt_heap.proofs.Changed.{alive_from}
use Rattle.nxt_heap.proofs.Seen.{lives, row_inside}
use Rattle.nxt_heap.proofs.heap.Heap.stride.Goals as goal
use Rattle.nxt_heap.proofs.heap.Heap.stride.Goals.{then-row-eq0-via-then-row-eq0, then-row-eq0-via-else-row-eq0+then-row-get}

none_there : (o : Option ByteList) → (IsSome o → ⊥) → o ≡ None
none_there None h = refl
none_there (Some l) h = absurd (h refl)

pub get-requires : goal.get-requires
get-requires c =
    let is_pool = c.self.invariant.blocks.is_pool in
    rw c.deref.ensures.value (row_inside c.self.inside.pool.items c.self.inside.state.table c.self.inside.state.base 0 is_pool is_pool.sound.some)

pub get-stride-requires : goal.get-stride-requires
get-stride-requires c =
    let pool = c.self.inside.pool.items in
    let p = c.self.inside.state in
    let count = ap (λ r. r.count) (rw c.deref.ensures.value at c.get.ensures) in
    let more = c.if-row-get.false in
    let within : c.args.row < row_count pool p.table = omega (arith, count, more) in
    rw c.deref-2.ensures.value (row_inside pool p.table p.base c.args.row c.self.invariant.blocks.is_pool within)

pub returns-then-row-eq0-clause-none : goal.returns-then-row-eq0-clause-none
returns-then-row-eq0-clause-none c =
    λ none.
    none_there (list_at c.args.self.now.lists c.args.row) (λ some.
    let l = lives c.self.inside.pool.items c.self.inside.state.table c.args.row (rw (← c.self.view_is) at some) in
    let above = l.above in
    let within = l.within in
    elim c.then-row-eq0.branch [
      | then-row-eq0-via-then-row-eq0 w ↦ let first = w.if-row-eq0.true in absurd (omega (arith, above, first))
      | then-row-eq0-via-else-row-eq0+then-row-get w ↦
          let count = ap (λ r. r.count) (rw w.deref.ensures.value at w.get.ensures) in
          let past = w.if-row-get.true in
          absurd (omega (arith, within, count, past))
    ])

pub returns-then-stride-eq0-clause-none : goal.returns-then-stride-eq0-clause-none
returns-then-stride-eq0-clause-none c =
    λ none.
    none_there (list_at c.args.self.now.lists c.args.row) (λ some.
    let l = lives c.self.inside.pool.items c.self.inside.state.table c.args.row (rw (← c.self.view_is) at some) in
    let found = ap (λ r. r.stride) (rw c.deref-2.ensures.value at c.get-stride.ensures) in
    let zero = c.if-stride-eq0.true in
    let some_stride = l.stride in
    absurd (some_stride (omega (arith, found, zero))))

pub returns-else-stride-eq0-clause-alive : goal.returns-else-stride-eq0-clause-alive
returns-else-stride-eq0-clause-alive c =
    let pool = c.self.inside.pool.items in
    let table = c.self.inside.state.table in
    let count = ap (λ r. r.count) (rw c.deref.ensures.value at c.get.ensures) in
    let more = c.if-row-get.false in
    let above = c.if-row-eq0.false in
    let within : c.args.row < row_count pool table = omega (arith, count, more) in
    let found = ap (λ r. r.stride) (rw c.deref-2.ensures.value at c.get-stride.ensures) in
    let some = c.if-stride-eq0.false in
    rw (← c.self.view_is) (alive_from pool table c.args.row (omega (arith, above)) within (λ none. omega (arith, some, found, none)))

pub returns-else-stride-eq0-clause-stride : goal.returns-else-stride-eq0-clause-stride
returns-else-stride-eq0-clause-stride c =
    let some = returns-else-stride-eq0-clause-alive c in
    let l = lives c.self.inside.pool.items c.self.inside.state.table c.args.row (rw (← c.self.view_is) at some) in
    let found = ap (λ r. r.stride) (rw c.deref-2.ensures.value at c.get-stride.ensures) in
    found ∙ sym (ap stride_of l.is) ∙ ap (λ h. stride_at h.lists c.args.row) c.self.view_is
