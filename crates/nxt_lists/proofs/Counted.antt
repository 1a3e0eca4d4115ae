-- Sizes of values that numbers begin with, added up one by one.
use Rattle.std.proofs.Common.{◌≡◌, ℕ, suc, ◌+◌, ◌-◌, ◌<◌, ◌≤◌, List, [], ◌∷◌, sum_by, sym, ap, ap₂, ◌∙◌, subst, arith}
use Rattle.std.specs.Prelude.{ℤ}
use Rattle.std.proofs.lemmas.List.Sums.{sum_by-cons}
use Rattle.nxt_types.specs.Shapes.{Shape}
use Rattle.nxt_model.specs.Footprint.{list_bytes}
use Rattle.nxt_model.specs.Values.{Value, lists_in}
use Rattle.nxt_values.specs.Fills.{filled}
use Rattle.nxt_values.specs.Sizes.{IsCountable, size_in, size_of_filled}
use Rattle.nxt_values.specs.declared.sizing.Size.{Size}
use Rattle.nxt_values.proofs.Laws.Sizes.{CanAdd, both, nothing}
use Rattle.nxt_lists.specs.Pieces.{many_filled, size_of_each}

-- what was counted and these values make up the whole
pub record Left (s : Shape) (sum : Size) (vs : List Value) (whole : Size) : Type 0 where
  pub lists : sum.lists + sum_by lists_in vs ≡ whole.lists
  pub bytes : sum.bytes + sum_by (list_bytes s) vs ≡ whole.bytes

-- of so many values those from number k on are still to be counted, which the numbers begin with
pub record ManyLeft (s : Shape) (count k : ℕ) (sum : Size) (left : List ℤ) (whole : Size) : Type 0 where
  pub parts : Left s sum (many_filled s (count - k) left) whole

pub many_begin : (s : Shape) (count : ℕ) (zs : List ℤ) → ManyLeft s count 0 nothing zs (size_of_each s (many_filled s count zs))
many_begin s count zs =
    let all : count - 0 ≡ count = omega arith in
    let is = ap (λ n. size_of_each s (many_filled s n zs)) all in
    record { parts = record { lists = let e = ap (λ (z : Size). z.lists) is in omega (arith, e); bytes = let e = ap (λ (z : Size). z.bytes) is in omega (arith, e) } }

-- value k, and those behind it
pub record NextLeft (s : Shape) (count k : ℕ) (sum : Size) (left : List ℤ) (whole : Size) : Type 0 where
  pub parts : Left s sum ((filled s left).0 ∷ many_filled s (count - (k + 1)) (filled s left).1) whole

pub many_next : {s : Shape} {count k : ℕ} {sum : Size} {left : List ℤ} {whole : Size} → k < count → ManyLeft s count k sum left whole → NextLeft s count k sum left whole
many_next {s} {count} {k} {sum} {left} {whole} less e =
    let more : count - k ≡ suc (count - (k + 1)) = omega (arith, less) in
    record { parts = subst (λ n. Left s sum (many_filled s n left) whole) more e.parts }

-- the next value is no greater than the whole
pub next_countable : {s : Shape} {count k : ℕ} {sum : Size} {left : List ℤ} {whole : Size} → NextLeft s count k sum left whole → IsCountable whole → IsCountable (size_of_filled s left)
next_countable {s} {count} {k} {sum} {left} {whole} e small =
    let v = (filled s left).0 in
    let vs = many_filled s (count - (k + 1)) (filled s left).1 in
    record {
      lists = omega (arith, e.parts.lists, small.lists, sum_by-cons lists_in v vs);
      bytes = omega (arith, e.parts.bytes, small.bytes, sum_by-cons (list_bytes s) v vs);
    }

pub next_adds : {s : Shape} {count k : ℕ} {sum one : Size} {left : List ℤ} {whole : Size} → NextLeft s count k sum left whole → IsCountable whole → one ≡ size_of_filled s left → CanAdd sum one
next_adds {s} {count} {k} {sum} {one} {left} {whole} e small is =
    let v = (filled s left).0 in
    let vs = many_filled s (count - (k + 1)) (filled s left).1 in
    subst
    (CanAdd sum)
    (sym is)
    (record {
      lists = omega (arith, e.parts.lists, small.lists, sum_by-cons lists_in v vs);
      bytes = omega (arith, e.parts.bytes, small.bytes, sum_by-cons (list_bytes s) v vs);
    })

-- with it less is left
left_less : (s : Shape) (sum : Size) (v : Value) (vs : List Value) (whole : Size) → Left s sum (v ∷ vs) whole → Left s (both sum (size_in s v)) vs whole
left_less s sum v vs whole e =
    record { lists = omega (arith, e.lists, sum_by-cons lists_in v vs); bytes = omega (arith, e.bytes, sum_by-cons (list_bytes s) v vs) }

pub next_added : {s : Shape} {count k : ℕ} {sum one more : Size} {left rest : List ℤ} {whole : Size} → NextLeft s count k sum left whole → one ≡ size_of_filled s left → rest ≡ (filled s left).1 → more ≡ both sum one → ManyLeft s count (k + 1) more rest whole
next_added {s} {count} {k} {sum} {one} {more} {left} {rest} {whole} e is behind added =
    let v = (filled s left).0 in
    let vs = many_filled s (count - (k + 1)) (filled s left).1 in
    subst
    (λ zs. ManyLeft s count (k + 1) more zs whole)
    (sym behind)
    (record { parts = subst (λ z. Left s z vs whole) (sym (added ∙ ap (both sum) is)) (left_less s sum v vs whole e.parts) })

pub many_done : {s : Shape} {count k : ℕ} {sum : Size} {left : List ℤ} {whole : Size} → count ≤ k → ManyLeft s count k sum left whole → sum ≡ whole
many_done {s} {count} {k} {sum} {left} {whole} all e =
    let none : count - k ≡ 0 = omega (arith, all) in
    let done : Left s sum [] whole = subst (λ n. Left s sum (many_filled s n left) whole) none e.parts in
    let lists : sum.lists ≡ whole.lists = omega (arith, done.lists) in
    let bytes : sum.bytes ≡ whole.bytes = omega (arith, done.bytes) in
    ap₂ (λ l b. let z : Size = record { lists = l; bytes = b } in z) lists bytes
