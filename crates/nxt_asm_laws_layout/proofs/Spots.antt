-- The places of leaves: they end where all leaves do, and no two share a byte.
use Rattle.std.proofs.Common.{◌≡◌, ℕ, zero, suc, ◌+◌, ◌≤◌, inl, inr, List, [], ◌∷◌, ◌++◌, drop, length, slice_index, refl, sym, ap, subst, ◌∙◌, append_assoc, arith}
use Rattle.std.proofs.lemmas.Bool.{cases_order}
use Rattle.nxt_facts.proofs.Each.{Each}
use Rattle.nxt_facts.proofs.Sums.{total}
use Rattle.nxt_model.specs.Assembled.{bytes_where, places, places_after}
use Rattle.nxt_model.specs.Spans.{Span, IsApart, AreApart, end_of}
use Rattle.nxt_asm_laws_layout.proofs.Weights.{weight, bytes_weighed, larger, equal, larger_hold, all_hold, weight_push, weight_grows, weight_within}

abbrev pub spot : List ℕ → ℕ → Span
spot ps n = record { place = slice_index ps 0; width = n }

-- where leaves of these sizes stand, by their places
abbrev pub spots : List ℕ → List ℕ → List Span
spots ps [] = []
spots ps (n ∷ ns) = spot ps n ∷ spots (drop 1 ps) ns

drop_next : (n : ℕ) (ps : List ℕ) → drop (suc n) ps ≡ drop n (drop 1 ps)
drop_next zero [] = refl
drop_next (suc n) [] = refl
drop_next n (p ∷ ps) = refl

pub spots-append : (ps ns ms : List ℕ) → spots ps (ns ++ ms) ≡ spots ps ns ++ spots (drop (length ns) ps) ms
spots-append ps [] ms = refl
spots-append ps (n ∷ ns) ms =
    ap (λ l. spot ps n ∷ l)
    (spots-append (drop 1 ps) ns ms ∙ ap (λ qs. spots (drop 1 ps) ns ++ spots qs ms) (sym (drop_next (length ns) ps)))

-- ---- ends

place_in : (n : ℕ) (all before ns : List ℕ) → all ≡ before ++ n ∷ ns
    → bytes_where (larger n) all + bytes_where (equal n) before + n ≤ total (λ (x : ℕ). x) all
place_in n all before ns whole =
    omega (arith, bytes_weighed (larger n) all, bytes_weighed (equal n) before, weight_within n all before ns whole, all_hold n all)

abbrev EndsBy : ℕ → Span → Type 0
EndsBy m p = end_of p ≤ m

ends_after : (all before ns : List ℕ) → all ≡ before ++ ns → Each (EndsBy (total (λ (x : ℕ). x) all)) (spots (places_after all before ns) ns)
ends_after all before [] whole = tt
ends_after all before (n ∷ ns) whole =
    (place_in n all before ns whole, ends_after all (before ++ n ∷ []) ns (whole ∙ sym (append_assoc before (n ∷ []) ns)))

-- each ends where all leaves do
pub spots_end : (ns : List ℕ) → Each (λ p. end_of p ≤ total (λ (x : ℕ). x) ns) (spots (places ns) ns)
spots_end ns = ends_after ns [] ns refl

-- ---- apart

-- a leaf of n bytes behind such leaves as stand before it, and one of m bytes further behind
two_apart : (n m : ℕ) (all first before ns : List ℕ) → weight (equal n) first + n ≤ weight (equal n) before → weight (equal n) before ≤ weight (equal n) all → all ≡ before ++ m ∷ ns
    → IsApart (record { place = bytes_where (larger n) all + bytes_where (equal n) first; width = n })
    (record { place = bytes_where (larger m) all + bytes_where (equal m) before; width = m })
two_apart n m all first before ns behind within whole =
    let a = bytes_weighed (larger n) all in
    let b = bytes_weighed (equal n) first in
    let c = bytes_weighed (larger m) all in
    let d = bytes_weighed (equal m) before in
    let e = weight_within m all before ns whole in
    elim (cases_order n m) [
      | inl same ↦
          let f : weight (larger n) all ≡ weight (larger m) all = ap (λ k. weight (larger k) all) same in
          let g : weight (equal n) before ≡ weight (equal m) before = ap (λ k. weight (equal k) before) same in
          inl (omega (arith, a, b, c, d, behind, f, g))
      | inr other ↦ elim other [
        | inl less ↦ inr (omega (arith, a, b, c, d, e, larger_hold n m all less))
        | inr more ↦ inl (omega (arith, a, b, c, d, behind, within, larger_hold m n all more))
      ]
    ]

apart_after : (n : ℕ) (all first before ns : List ℕ) → weight (equal n) first + n ≤ weight (equal n) before → all ≡ before ++ ns
    → Each (IsApart (record { place = bytes_where (larger n) all + bytes_where (equal n) first; width = n })) (spots (places_after all before ns) ns)
apart_after n all first before [] behind whole = tt
apart_after n all first before (m ∷ ns) behind whole =
    let within : weight (equal n) before ≤ weight (equal n) all = subst (λ xs. weight (equal n) before ≤ weight (equal n) xs) (sym whole) (weight_grows (equal n) before (m ∷ ns)) in
    let grown = weight_grows (equal n) before (m ∷ []) in (
      two_apart n m all first before ns behind within whole,
      apart_after n all first (before ++ m ∷ []) ns (omega (arith, behind, grown)) (whole ∙ sym (append_assoc before (m ∷ []) ns)),
    )

pairs_after : (all before ns : List ℕ) → all ≡ before ++ ns → AreApart (spots (places_after all before ns) ns)
pairs_after all before [] whole = tt
pairs_after all before (n ∷ ns) whole =
    let next : all ≡ (before ++ n ∷ []) ++ ns = whole ∙ sym (append_assoc before (n ∷ []) ns) in
    let pushed = weight_push n before in
    (apart_after n all before (before ++ n ∷ []) ns (omega (arith, pushed)) next, pairs_after all (before ++ n ∷ []) ns next)

-- no two share a byte
pub spots_apart : (ns : List ℕ) → AreApart (spots (places ns) ns)
spots_apart ns = pairs_after ns [] ns refl
