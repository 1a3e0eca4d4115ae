-- The place below which no hole begins that holds so many bytes as were sought.
use Rattle.std.proofs.Common.{◌≡◌, inl, inr, ⊎_elim, ℕ, ◌%◌, ◌<◌, ◌≤◌, List, length, sym, ap, ◌∙◌, subst, arith}
use Rattle.std.proofs.lemmas.Bool.{cases_eq, cases_lt}
use Rattle.nxt_rows.specs.Rows.{dope_row}
use Rattle.nxt_compact.specs.Pools.{block_bytes, IsFull}
use Rattle.nxt_compact.proofs.Laws.Going.{first_full}
use Rattle.nxt_heap.specs.Inside.Pool.{IsPool, IsFit, IsHole, IsSearched}
use Rattle.nxt_heap.proofs.Begins.{SameOthers, table_inside}

-- ---- what is known at the start, and once a hole was found

-- below the place where blocks may begin none is
pub searched_anew : (pool : List ℕ) (table base sought : ℕ) → IsPool pool table base → base % 4 ≡ 0 → IsSearched pool table base base sought
searched_anew pool table base sought b word = record {
  above = omega arith;
  word = word;
  inside =
      let low = b.sound.above 0 (first_full pool table base b.sound) in
      let inside = table_inside pool table base b in
      omega (arith, low, inside, b.sound.place, b.size);
  clean = λ q f less. let low = b.sound.above q f in absurd (omega (arith, low, less));
  none = λ at low less hole. absurd (omega (arith, low, less));
}

-- the lowest hole was found
pub searched_found : (pool : List ℕ) (table base bytes at : ℕ) → IsPool pool table base → 0 < bytes → IsFit pool table base bytes at → IsSearched pool table base at bytes
searched_found pool table base bytes at b some fit = record {
  above = fit.low;
  word = fit.word;
  inside = omega (arith, fit.hole.within, b.size);
  clean = λ q f less.
      ⊎_elim
      (λ behind. absurd (omega (arith, behind, less, some)))
      (λ before. before)
      (fit.hole.others q f);
  none = λ a low less hole. let first = fit.first a low hole in omega (arith, first, less);
}

-- ---- what is left of the search

-- no hole of as many bytes or more begins below
pub none_below : (pool : List ℕ) (table base searched sought bytes at : ℕ) → IsSearched pool table base searched sought → sought ≤ bytes → base ≤ at → at < searched
    → IsHole pool table at bytes → ⊥
none_below pool table base searched sought bytes at s more low less hole =
    s.none at low less
    (record {
      within = omega (arith, hole.within, more);
      others = λ q f.
          ⊎_elim
          (λ behind. inl (omega (arith, behind, more)))
          (λ before. inr before)
          (hole.others q f);
    })

-- the lowest of those above is the lowest of all
pub fit_searched : (pool : List ℕ) (table base searched sought bytes at : ℕ) → IsSearched pool table base searched sought → sought ≤ bytes
    → IsFit pool table searched bytes at → IsFit pool table base bytes at
fit_searched pool table base searched sought bytes at s more fit = record {
  low = omega (arith, s.above, fit.low);
  word = fit.word;
  hole = fit.hole;
  first = λ p low hole. elim (cases_lt p searched) [
    | inl less ↦ absurd (none_below pool table base searched sought bytes p s more low less hole)
    | inr high ↦ fit.first p high hole
  ];
}

-- ---- what stays known

-- blocks below it stay, and no other one is gone
pub searched_still : (old new : List ℕ) (table table' base searched sought : ℕ) → length new ≡ length old
    → ((r : ℕ) → IsFull new table' r → (dope_row new table' r).place < searched → IsFull old table r × ((dope_row new table' r).place ≡ (dope_row old table r).place) × (block_bytes (dope_row new table' r) ≡ block_bytes (dope_row old table r)))
    → ((r : ℕ) → IsFull old table r → IsFull new table' r × ((dope_row new table' r).place ≡ (dope_row old table r).place) × ((dope_row old table r).place < searched → block_bytes (dope_row old table r) ≤ block_bytes (dope_row new table' r)))
    → IsSearched old table base searched sought → IsSearched new table' base searched sought
searched_still old new table table' base searched sought size was is s = record {
  above = s.above;
  word = s.word;
  inside = s.inside;
  clean = λ r f less.
      let before = was r f less in
      let end = s.clean r before.0 (omega (arith, less, before.1)) in
      omega (arith, end, before.1, before.2);
  none = λ at low less hole.
      s.none at low less
      (record {
        within = omega (arith, hole.within, size);
        others = λ r f.
            let now = is r f in
            elim (cases_lt (dope_row old table r).place searched) [
              | inl below ↦
                  let longer = now.2 below in
                  ⊎_elim
                  (λ behind. inl (omega (arith, behind, now.1)))
                  (λ before. inr (omega (arith, before, now.1, longer)))
                  (hole.others r now.0)
              | inr above ↦
                  ⊎_elim
                  (λ behind. inl (omega (arith, behind, now.1)))
                  (λ before. absurd (omega (arith, before, now.1, above, less)))
                  (hole.others r now.0)
            ];
      });
}

-- the same where one row's block alone changes, and doesn't stand below
pub searched_others : (old new : List ℕ) (table table' base searched sought row : ℕ) → length new ≡ length old → SameOthers old new table table' row
    → (IsFull old table row → IsFull new table' row × ((dope_row new table' row).place ≡ (dope_row old table row).place) × (searched ≤ (dope_row old table row).place))
    → (IsFull new table' row → searched ≤ (dope_row new table' row).place)
    → IsSearched old table base searched sought → IsSearched new table' base searched sought
searched_others old new table table' base searched sought row size o was now s =
    searched_still old new table table' base searched sought size
    (λ r f less. elim (cases_eq r row) [
      | inl same ↦
          let high = now (subst (λ n. IsFull new table' n) same f) in
          absurd (omega (arith, less, high, ap (λ n. (dope_row new table' n).place) same))
      | inr other ↦ let g = o.before r other f in (g, o.place r other g, o.bytes r other g)
    ])
    (λ r f. elim (cases_eq r row) [
      | inl same ↦
          let own = was (subst (λ n. IsFull old table n) same f) in (
            subst (λ n. IsFull new table' n) (sym same) own.0,
            ap (λ n. (dope_row new table' n).place) same ∙ own.1 ∙ ap (λ n. (dope_row old table n).place) (sym same),
            λ less. absurd (omega (arith, less, own.2, ap (λ n. (dope_row old table n).place) same)),
          )
      | inr other ↦ (o.then r other f, o.place r other f, λ less. omega (arith, o.bytes r other f))
    ])
    s
