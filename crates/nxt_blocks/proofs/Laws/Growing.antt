-- Blocks that get longer, and blocks without gaps.
use Rattle.std.proofs.Common.{◌≡◌, ℕ, ◌+◌, ◌-◌, ◌<◌, ◌≤◌, inl, inr, true, false, cond, List, [], ◌∷◌, refl, sym, ap, ◌∙◌, arith}
use Rattle.std.specs.Prelude.{◌&&◌, ◌||◌, if◌then◌else◌, sum_by, nat_lt, nat_le, ◌==◌}
use Rattle.std.specs.List.{list_all}
use Rattle.std.proofs.lemmas.Bool.{cases_lt, cases_eq, and_parts, or_cases, leb-true, lt-ltb, le-ltb, eq-eqb, ne_eqb}
use Rattle.std.proofs.lemmas.List.Sums.{sum_by-cons}
use Rattle.nxt_model.specs.Reading.{Block}
use Rattle.nxt_blocks.specs.Blocks.{total, below, packed, unsettled, at_place, is_open, slid_place, grown_block, slide}
use Rattle.nxt_model.specs.Dump.{is_unsettled}
use Rattle.nxt_facts.proofs.Each.{Each, each_then, each_mapped}
use Rattle.nxt_blocks.specs.Standing.{IsApart, Stand}
use Rattle.nxt_blocks.proofs.Laws.Sums.{In, each_at, each_from, pairs_map, sum_map, sum_same, sum_two}
use Rattle.nxt_blocks.proofs.Laws.Packing.{end_of, clean_top, below_gap, packed-next, packed-total, fits, under, under_yes}
use Rattle.nxt_blocks.proofs.Laws.Settling.{bit}

-- ---- in an open place: in place, or in a hole

open_apart : (xs : List Block) (p n : ℕ) → list_all (λ b. nat_le (b.place + b.bytes) p || nat_le (p + n) b.place) xs ≡ true → Each (IsApart (record { place = p; bytes = n })) xs
open_apart [] p n h = tt
open_apart (x ∷ xs) p n h =
    let both = and_parts (nat_le (x.place + x.bytes) p || nat_le (p + n) x.place) (list_all (λ b. nat_le (b.place + b.bytes) p || nat_le (p + n) b.place) xs) h in (
      elim (or_cases (nat_le (x.place + x.bytes) p) (nat_le (p + n) x.place) both.0) [
        | inl l ↦ inr (leb-true (x.place + x.bytes) p l)
        | inr l ↦ inl (leb-true (p + n) x.place l)
      ],
      open_apart xs p n both.1,
    )

-- a block in an open place shares no byte with the others
pub placed : (base top p n : ℕ) (xs : List Block) → Stand base top xs → is_open base top xs p n ≡ true → 0 < n → Stand base top (record { place = p; bytes = n } ∷ xs)
placed base top p n xs s h some =
    let all = list_all (λ b. nat_le (b.place + b.bytes) p || nat_le (p + n) b.place) xs in
    let parts = and_parts (nat_le base p && nat_le (p + n) top) all h in
    let ends = and_parts (nat_le base p) (nat_le (p + n) top) parts.0 in
    record {
      apart = (open_apart xs p n parts.1, s.apart);
      some = (some, s.some);
      above = (leb-true base p ends.0, s.above);
      within = (leb-true (p + n) top ends.1, s.within);
    }

-- without one of them
pub removed : (base top : ℕ) (x : Block) (xs : List Block) → Stand base top (x ∷ xs) → Stand base top xs
removed base top x xs s = record { apart = s.apart.1; some = s.some.1; above = s.above.1; within = s.within.1 }

-- ---- by sliding

abbrev pub shift : ℕ → ℕ → ℕ → ℕ
shift grown more p = if nat_lt grown p then more else 0

abbrev pub extra : ℕ → ℕ → Block → ℕ
extra grown more b = if b.place == grown then more else 0

shift_yes : (grown more p : ℕ) → grown < p → shift grown more p ≡ more
shift_yes grown more p l = ap (λ t. cond t more 0) (lt-ltb grown p l)

shift_no : (grown more p : ℕ) → p ≤ grown → shift grown more p ≡ 0
shift_no grown more p l = ap (λ t. cond t more 0) (le-ltb grown p l)

pub extra_yes : (grown more : ℕ) (b : Block) → b.place ≡ grown → extra grown more b ≡ more
extra_yes grown more b e = ap (λ t. cond t more 0) (eq-eqb b.place grown e)

pub extra_no : (grown more : ℕ) (b : Block) → (b.place ≡ grown → ⊥) → extra grown more b ≡ 0
extra_no grown more b e = ap (λ t. cond t more 0) (ne_eqb b.place grown e)

abbrev pub slid : ℕ → List Block → ℕ → ℕ → Block → Block
slid base xs grown more b = at_place (slid_place base xs grown more b.place) (grown_block grown more b)

pub slid_bytes : (base : ℕ) (xs : List Block) (grown more : ℕ) (b : Block) → (slid base xs grown more b).bytes ≡ b.bytes + extra grown more b
slid_bytes base xs grown more b = elim (cases_eq b.place grown) [
  | inl e ↦ ap (λ t. cond t (b.bytes + more) b.bytes) (eq-eqb b.place grown e) ∙ ap (λ n. b.bytes + n) (sym (extra_yes grown more b e))
  | inr e ↦ omega (arith, ap (λ t. cond t (b.bytes + more) b.bytes) (ne_eqb b.place grown e), extra_no grown more b e)
]

-- what a block moves up and grows is no more than what one above it moves up
shift_next : (grown more : ℕ) (a : Block) (q : ℕ) → a.place < q → shift grown more a.place + extra grown more a ≤ shift grown more q
shift_next grown more a q l = elim (cases_lt grown a.place) [
  | inl over ↦ omega (arith, shift_yes grown more a.place over, shift_yes grown more q (omega (arith, over, l)), extra_no grown more a (λ e. omega (arith, e, over)))
  | inr at_most ↦ elim (cases_eq a.place grown) [
    | inl e ↦ omega (arith, shift_no grown more a.place at_most, shift_yes grown more q (omega (arith, e, l)), extra_yes grown more a e)
    | inr e ↦ omega (arith, shift_no grown more a.place at_most, extra_no grown more a e)
  ]
]

pub shift_most : (grown more : ℕ) (a : Block) → shift grown more a.place + extra grown more a ≤ more
shift_most grown more a = elim (cases_lt grown a.place) [
  | inl over ↦ omega (arith, shift_yes grown more a.place over, extra_no grown more a (λ e. omega (arith, e, over)))
  | inr at_most ↦ elim (cases_eq a.place grown) [
    | inl e ↦ omega (arith, shift_no grown more a.place at_most, extra_yes grown more a e)
    | inr e ↦ omega (arith, shift_no grown more a.place at_most, extra_no grown more a e)
  ]
]

-- a block still ends before one that begins above it
pub slid-order : (base top : ℕ) (xs : List Block) (grown more : ℕ) (a b : Block) → In a xs → a.place < b.place → end_of (slid base xs grown more a) ≤ (slid base xs grown more b).place
slid-order base top xs grown more a b i l = omega (arith, slid_bytes base xs grown more a, packed-next xs base b.place a i l, shift_next grown more a b.place l)

slid_apart : (base top : ℕ) (xs : List Block) (grown more : ℕ) (a b : Block) → In a xs → In b xs → 0 < a.bytes → 0 < b.bytes → IsApart a b → IsApart (slid base xs grown more a) (slid base xs grown more b)
slid_apart base top xs grown more a b i j some many (inl l) = inl (slid-order base top xs grown more a b i (omega (arith, some, l)))
slid_apart base top xs grown more a b i j some many (inr l) = inr (slid-order base top xs grown more b a j (omega (arith, many, l)))

-- where the bytes fit, there is room after sliding
pub slide-stand : (base top : ℕ) (xs : List Block) (grown more : ℕ) → Stand base top xs → base + total xs + more ≤ top → Stand base top (slide base xs grown more)
slide-stand base top xs grown more s room = record {
  apart = pairs_map IsApart IsApart (slid base xs grown more) xs (λ a b i j apart. slid_apart base top xs grown more a b i j (each_at (λ c. 0 < c.bytes) xs a s.some i) (each_at (λ c. 0 < c.bytes) xs b s.some j) apart) s.apart;
  some = each_mapped (λ b. 0 < b.bytes) (slid base xs grown more) xs (each_then (λ b. 0 < b.bytes) (λ b. 0 < (slid base xs grown more b).bytes) (λ b l. omega (arith, slid_bytes base xs grown more b, l)) xs s.some);
  above = each_mapped (λ b. base ≤ b.place) (slid base xs grown more) xs (each_from (λ b. base ≤ (slid base xs grown more b).place) xs (λ b i. omega arith));
  within = each_mapped (λ b. b.place + b.bytes ≤ top) (slid base xs grown more) xs (each_from (λ b. end_of (slid base xs grown more b) ≤ top) xs (λ b i. omega (arith, slid_bytes base xs grown more b, packed-total xs base b i, shift_most grown more b, room)));
}

no_extra : (grown more : ℕ) (xs : List Block) → ((b : Block) → In b xs → b.place ≡ grown → ⊥) → sum_by (extra grown more) xs ≡ 0
no_extra grown more [] h = refl
no_extra grown more (x ∷ xs) h = omega (arith, sum_by-cons (extra grown more) x xs, extra_no grown more x (h x (inl refl)), no_extra grown more xs (λ b i. h b (inr i)))

other_place : (g : Block) (xs : List Block) → 0 < g.bytes → Each (λ b. 0 < b.bytes) xs → Each (IsApart g) xs → (b : Block) → In b xs → b.place ≡ g.place → ⊥
other_place g xs some many apart b i e = elim (each_at (IsApart g) xs b apart i) [
  | inl l ↦ omega (arith, l, e, some)
  | inr l ↦ omega (arith, l, e, each_at (λ c. 0 < c.bytes) xs b many i)
]

-- the blocks then take so many bytes more
pub slide-total : (base top : ℕ) (g : Block) (xs : List Block) (more : ℕ) → Stand base top (g ∷ xs) → total (slide base (g ∷ xs) g.place more) ≡ total (g ∷ xs) + more
slide-total base top g xs more s =
    let at = g.place in
    let ys = g ∷ xs in
    omega (
      arith,
      sum_map (λ b. b.bytes) (slid base ys at more) ys,
      sum_two (λ b. (slid base ys at more b).bytes) (λ b. b.bytes) (extra at more) ys (λ b i. slid_bytes base ys at more b),
      sum_by-cons (extra at more) g xs,
      extra_yes at more g refl,
      no_extra at more xs (other_place g xs s.some.0 s.some.1 s.apart.0),
    )

-- the first block of the list keeps its front where it packs
pub slide-first : (base : ℕ) (g : Block) (xs : List Block) (more : ℕ) → (slid base (g ∷ xs) g.place more g) ≡ record { place = packed base (g ∷ xs) g.place; bytes = g.bytes + more }
slide-first base g xs more =
    ap (λ n. record { place = n; bytes = (slid base (g ∷ xs) g.place more g).bytes }) (omega (arith, shift_no g.place more g.place (omega arith)))
    ∙ ap (λ n. record { place = packed base (g ∷ xs) g.place; bytes = n }) (omega (arith, slid_bytes base (g ∷ xs) g.place more g, extra_yes g.place more g refl))

-- there is room for a longer block exactly where the bytes of all blocks fit
pub room-only : (base top more : ℕ) (xs ys : List Block) → base ≤ top → Stand base top ys → total ys ≡ total xs + more → base + total xs + more ≤ top
room-only base top more xs ys l s e = omega (arith, fits ys base top l s, e)

-- ---- without gaps

-- blocks that fill the space have no gap
pub full : (base : ℕ) (xs : List Block) → Stand base (base + total xs) xs → (b : Block) → In b xs → is_unsettled base xs b ≡ false
full base xs s b i =
    let top = base + total xs in
    let every : below xs top ≡ total xs = sum_same (under top) (λ c. c.bytes) xs (λ c j. under_yes top c (omega (arith, each_at (λ a. 0 < a.bytes) xs c s.some j, each_at (λ a. a.place + a.bytes ≤ top) xs c s.within j))) in
    let low : b.place ≤ top = omega (arith, each_at (λ a. a.place + a.bytes ≤ top) xs b s.within i) in
    le-ltb (below xs b.place) (b.place - base) (omega (arith, every, low, below_gap xs b.place top low s.apart (clean_top xs top top s.within (omega arith))))

pub full-unsettled : (base : ℕ) (xs : List Block) → Stand base (base + total xs) xs → unsettled base xs ≡ 0
full-unsettled base xs s = sum_same (λ b. bit (is_unsettled base xs b)) (λ b. 0) xs (λ b i. ap bit (full base xs s b i)) ∙ zeros xs
  where
    zeros : (ys : List Block) → sum_by (λ b. 0) ys ≡ 0
    zeros [] = refl
    zeros (y ∷ ys) = zeros ys
