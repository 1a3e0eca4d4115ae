-- The rows and blocks of a heap whose lists stand at given places.
use Rattle.std.proofs.Common.{◌≡◌, ◌≢◌, ℕ, zero, suc, ◌*◌, ◌/◌, ◌<◌, Bool, true, false, cond, ◌||◌, ◌==◌, if◌then◌else◌, List, [], ◌∷◌, map, filter, length, Option, Some, None, inl, inr, refl, sym, ap, ap₂, ◌∙◌, subst, arith, eq-eqb, ne_eqb}
use Rattle.std.specs.List.{list_any}
use Rattle.std.proofs.lemmas.Bool.{cases_eq}
use Rattle.nxt_facts.specs.Pairs.{EachPair}
use Rattle.nxt_facts.proofs.Each.{Each}
use Rattle.nxt_types.specs.Pool.{round4}
use Rattle.nxt_model.specs.Reading.{Block}
use Rattle.nxt_blocks.proofs.Laws.Sums.{In}
use Rattle.nxt_rows.specs.declared.DopeRow.{DopeRow}
use Rattle.nxt_heap.specs.Lists.{Lists, ByteList, list_at, bytes_at, stride_at, bytes_of, stride_of}
use Rattle.nxt_dumps.proofs.Heaps.Chain.{next_free}
use Rattle.nxt_dumps.proofs.Heaps.Rows.{IsWhole, size_of}

-- ---- places by rows

abbrev pub block_at : (ℕ → ℕ) → (ℕ → ℕ) → ℕ → Block
block_at size place r = record { place = place r; bytes = size r }

-- blocks of the rows' sizes stand at some places of the rows
pub record ByRows (size : ℕ → ℕ) (rows : List ℕ) (blocks : List Block) : Type 0 where
  pub place : ℕ → ℕ
  pub are : blocks ≡ map (block_at size place) rows

abbrev with_place : (ℕ → ℕ) → ℕ → ℕ → ℕ → ℕ
with_place place row at r = if r == row then at else place r

others_same : (size place : ℕ → ℕ) (row at : ℕ) (rows : List ℕ) → Each (λ r. row ≢ r) rows → map (block_at size place) rows ≡ map (block_at size (with_place place row at)) rows
others_same size place row at [] e = refl
others_same size place row at (r ∷ rs) e =
    ap₂ (λ (n : ℕ) (xs : List Block). record { place = n; bytes = size r } ∷ xs) (sym (ap (λ b. if b then at else place r) (ne_eqb r row (λ same. e.0 (sym same))))) (others_same size place row at rs e.1)

pub by_rows : (size : ℕ → ℕ) (rows : List ℕ) (blocks : List Block) → EachPair (λ a b. a ≢ b) rows → map (λ (b : Block). b.bytes) blocks ≡ map size rows → ByRows size rows blocks
by_rows size [] [] own e = record { place = λ r. 0; are = refl }
by_rows size [] (b ∷ bs) own e = let f : ⊥ = cc in absurd f
by_rows size (r ∷ rs) [] own e = let f : ⊥ = cc in absurd f
by_rows size (r ∷ rs) (b ∷ bs) own e =
    let first : b.bytes ≡ size r = cc in
    let rest = by_rows size rs bs own.1 (cc) in
    let place = with_place rest.place r b.place in
    let here : b.place ≡ place r = sym (ap (λ t. if t then b.place else rest.place r) (eq-eqb r r refl)) in
    record {
      place = place;
      are = ap₂ (λ (n m : ℕ). record { place = n; bytes = m } ∷ bs) here first
          ∙ ap (λ xs. block_at size place r ∷ xs) (rest.are ∙ others_same size rest.place r b.place rs own.0);
    }

-- ---- rows

-- a row without a list, and one with one; an empty list has no place
abbrev pub row_for : Option ByteList → ℕ → ℕ → DopeRow
row_for None place link = record { place = 65535; stride = 0; count = 0; back = 0; link = link }
row_for (Some l) place link =
    record { place = if length l.bytes == 0 then 65535 else place; stride = l.stride; count = length l.bytes / l.stride; back = 0; link = link }

module _ (h : Lists) (table : ℕ) (place : ℕ → ℕ) where
  -- row 0 is the table's own
  abbrev pub row_at : ℕ → DopeRow
  row_at zero = record { place = table; stride = 10; count = length h.by_row; back = 0; link = next_free h 0 }
  row_at (suc r) = row_for (list_at h (suc r)) (place (suc r)) (next_free h (suc r))

  abbrev pub block_of_row : ℕ → Block
  block_of_row r = record { place = (row_at r).place; bytes = round4 ((row_at r).count * (row_at r).stride) }

  pub link_at : (r : ℕ) → (row_at r).link ≡ next_free h r
  link_at zero = refl
  link_at (suc r) = by (list_at h (suc r))
    where
      by : (o : Option ByteList) → (row_for o (place (suc r)) (next_free h (suc r))).link ≡ next_free h (suc r)
      by None = refl
      by (Some l) = refl

  pub back_at : (r : ℕ) → (row_at r).back ≡ 0
  back_at zero = refl
  back_at (suc r) = by (list_at h (suc r))
    where
      by : (o : Option ByteList) → (row_for o (place (suc r)) (next_free h (suc r))).back ≡ 0
      by None = refl
      by (Some l) = refl

  -- a row above 0 without a list
  pub none_at : (r : ℕ) → 0 < r → list_at h r ≡ None → (row_at r) ≡ row_for None (place r) (next_free h r)
  none_at zero above is = absurd (omega (arith, above))
  none_at (suc r) above is = ap (λ o. row_for o (place (suc r)) (next_free h (suc r))) is

  pub some_at : (r : ℕ) (l : ByteList) → 0 < r → list_at h r ≡ Some l → (row_at r) ≡ row_for (Some l) (place r) (next_free h r)
  some_at zero l above is = absurd (omega (arith, above))
  some_at (suc r) l above is = ap (λ o. row_for o (place (suc r)) (next_free h (suc r))) is

  -- a list with bytes stands at its place
  pub list_block : (r : ℕ) (l : ByteList) → 0 < r → list_at h r ≡ Some l → IsWhole h r → 0 < length (bytes_at h r) → block_at (size_of h) place r ≡ block_of_row r
  list_block r l above is whole some =
      let long : length (bytes_at h r) ≡ length l.bytes = ap (λ o. length (bytes_of o)) is in
      let wide : stride_at h r ≡ l.stride = ap stride_of is in
      let bytes : length l.bytes / l.stride * l.stride ≡ length (bytes_at h r) =
      ap₂ (λ n s. n / s * s) (sym long) (sym wide) ∙ whole.whole in
      let there : (if length l.bytes == 0 then 65535 else place r) ≡ place r = ap (λ b. if b then 65535 else place r) (ne_eqb (length l.bytes) 0 (λ none. omega (arith, none, some, long))) in
      ap₂ (λ (n m : ℕ). record { place = n; bytes = round4 m }) (sym there) (sym bytes)
      ∙ sym (ap (λ (d : DopeRow). record { place = d.place; bytes = round4 (d.count * d.stride) }) (some_at r l above is))

-- ---- rows that are named

pub named_in : (p : ℕ → Bool) (xs : List ℕ) (r : ℕ) → list_any (λ q. q == r) xs ≡ true → p r ≡ true → In r (filter p xs)
named_in p [] r e passes = let f : ⊥ = cc in absurd f
named_in p (x ∷ xs) r e passes = elim (cases_eq x r) [
  | inl same ↦ subst (λ t. In r (cond t (x ∷ filter p xs) (filter p xs))) (sym (ap p same ∙ passes)) (inl (sym same))
  | inr other ↦ later (p x) (named_in p xs r (ap (λ b. b || list_any (λ q. q == r) xs) (sym (ne_eqb x r other)) ∙ e) passes)
]
  where
    later : (t : Bool) → In r (filter p xs) → In r (cond t (x ∷ filter p xs) (filter p xs))
    later true i = inr i
    later false i = i

pub named_at : (P : ℕ → Type 0) (xs : List ℕ) (r : ℕ) → Each P xs → list_any (λ q. q == r) xs ≡ true → P r
named_at P [] r each e = let f : ⊥ = cc in absurd f
named_at P (x ∷ xs) r each e = elim (cases_eq x r) [
  | inl same ↦ subst P same each.0
  | inr other ↦ named_at P xs r each.1 (ap (λ b. b || list_any (λ q. q == r) xs) (sym (ne_eqb x r other)) ∙ e)
]
