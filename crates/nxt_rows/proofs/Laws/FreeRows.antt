-- The free rows of a pool after one is taken or freed.
use Rattle.std.proofs.Common.{◌≡◌, ◌≢◌, ℕ, suc, ◌+◌, ◌-◌, ◌<◌, ◌≤◌, List, [], ◌∷◌, length, drop, get_or, false, nat_eq, refl, ap, sym, ◌∙◌, arith, length-drop, drop-cons}
use Rattle.std.proofs.lemmas.Bool.{ne_eqb}
use Rattle.std.proofs.lemmas.List.Elements.{All-cons, All-head, All-tail}
use Rattle.std.proofs.lemmas.Map.Keys.{IsDistinct-tail, IsDistinct-cons}
use Rattle.std.specs.Prelude.{All}
use Rattle.std.specs.List.{IsDistinct, list_any}
use Rattle.nxt_rows.specs.Rows.{dope_row, row_count, IsTable, chain, link_of, free_rows, IsFreeChain, IsAlive}
use Rattle.nxt_rows.proofs.Laws.Chains.{chain-zero, chain-taken, chain-freed, chain-none, chain-step, each_fails, length-rows}

-- ---- one pool

pub free_rows-zero : (pool : List ℕ) (table : ℕ) → list_any (nat_eq 0) (free_rows pool table) ≡ false
unfolding free_rows
free_rows-zero pool table = chain-zero (link_of pool table) (row_count pool table) (link_of pool table 0)

pub free_rows-length : (pool : List ℕ) (table : ℕ) → IsTable pool table → IsFreeChain pool table → length (free_rows pool table) < row_count pool table
free_rows-length pool table t f = length-rows (free_rows pool table) (row_count pool table) t.some (free_rows-zero pool table) f.within f.once

pub free_rows-none : (pool : List ℕ) (table : ℕ) → link_of pool table 0 ≡ 0 → free_rows pool table ≡ []
unfolding free_rows
free_rows-none pool table none = rw none (chain-none (link_of pool table) (row_count pool table))

-- what row 0 names
pub free_rows-front : (pool : List ℕ) (table row : ℕ) → IsTable pool table → IsFreeChain pool table → link_of pool table 0 ≡ row → 0 < row
    → row < row_count pool table
unfolding free_rows
free_rows-front pool table row t f front above =
    let n = row_count pool table in
    let some : n ≡ suc (n - 1) = omega (arith, t.some) in
    let first : free_rows pool table ≡ row ∷ chain (link_of pool table) (n - 1) (link_of pool table row) =
    ap (λ k. chain (link_of pool table) k (link_of pool table 0)) some ∙ rw front (chain-step (link_of pool table) (n - 1) row above) in
    All-head (λ r. r < n) row (chain (link_of pool table) (n - 1) (link_of pool table row)) (rw first at f.within)

-- ---- a walk along the chain

-- after this many rows of the chain the next row is this one, or 0 at the end
pub record Walks (pool : List ℕ) (table free row : ℕ) : Type 0 where
  pub rest : drop free (free_rows pool table) ≡ chain (link_of pool table) (row_count pool table - free) row
  pub within : free ≤ length (free_rows pool table)

pub Walks-start : (pool : List ℕ) (table : ℕ) → Walks pool table 0 (link_of pool table 0)
unfolding free_rows
Walks-start pool table =
    let whole : row_count pool table - 0 ≡ row_count pool table = omega arith in
    record { rest = rw whole refl; within = omega arith }

pub Walks-end : (pool : List ℕ) (table free : ℕ) → Walks pool table free 0 → free ≡ length (free_rows pool table)
Walks-end pool table free w =
    let none : drop free (free_rows pool table) ≡ [] = w.rest ∙ chain-none (link_of pool table) (row_count pool table - free) in
    omega (arith, w.within, length-drop free (free_rows pool table), ap length none)

pub record Stepped (pool : List ℕ) (table free row : ℕ) : Type 0 where
  pub inside : row < row_count pool table
  pub more : free < length (free_rows pool table)
  pub fits : length (free_rows pool table) < row_count pool table
  pub next : Walks pool table (free + 1) (link_of pool table row)

pub Walks-step : (pool : List ℕ) (table free row : ℕ) → IsTable pool table → IsFreeChain pool table → Walks pool table free row → 0 < row
    → Stepped pool table free row
Walks-step pool table free row t f w above =
    let n = row_count pool table in
    let xs = free_rows pool table in
    let fits : length xs < n = free_rows-length pool table t f in
    let room : n - free ≡ suc (n - (free + 1)) = omega (arith, fits, w.within) in
    let later = chain (link_of pool table) (n - (free + 1)) (link_of pool table row) in
    let rest : drop free xs ≡ row ∷ later = w.rest ∙ ap (λ k. chain (link_of pool table) k row) room ∙ chain-step (link_of pool table) (n - (free + 1)) row above in
    let more : free < length xs = omega (arith, w.within, length-drop free xs, ap length rest) in
    let parts : get_or xs free 0 ∷ drop (suc free) xs ≡ row ∷ later = sym (drop-cons xs free 0 more) ∙ rest in
    let head : get_or xs free 0 ≡ row = cc parts in
    let tail : drop (suc free) xs ≡ later = cc parts in
    let next : free + 1 ≡ suc free = omega arith in
    record {
      inside = rw (← head) (f.within free 0 more);
      more = more;
      fits = fits;
      next = record { rest = rw next (rw next at tail); within = omega (arith, more) };
    }

-- ---- two pools

-- all rows but row 0 and this one stay, and so does the number of rows
pub record SameBut (old new : List ℕ) (table row : ℕ) : Type 0 where
  pub count : row_count new table ≡ row_count old table
  pub others : (q : ℕ) → q ≢ 0 → q ≢ row → dope_row new table q ≡ dope_row old table q

-- the front row is taken
pub free_rows-taken : (old new : List ℕ) (table row : ℕ) → IsTable old table → IsFreeChain old table → SameBut old new table row
    → link_of old table 0 ≡ row → 0 < row → link_of new table 0 ≡ link_of old table row → free_rows old table ≡ row ∷ free_rows new table
unfolding free_rows
free_rows-taken old new table row t f same front above next =
    let short = free_rows-length old table t f in
    let whole = chain-taken (link_of old table) (link_of new table) (row_count old table) row above
    (rw front at f.once) (rw front at short) (λ q some other. ap (λ r. r.link) (same.others q some other)) in
    rw (front, next, same.count) whole

-- a living row is put at the front
pub free_rows-freed : (old new : List ℕ) (table row : ℕ) → IsTable old table → IsFreeChain old table → IsAlive old table row
    → SameBut old new table row → link_of new table 0 ≡ row → link_of new table row ≡ link_of old table 0
    → free_rows new table ≡ row ∷ free_rows old table
unfolding free_rows
free_rows-freed old new table row t f alive same front next =
    let rows = free_rows old table in
    let more : IsDistinct nat_eq (row ∷ rows) = IsDistinct-cons nat_eq row rows (each_fails (nat_eq row) rows alive.unchained) f.once in
    let within : All (λ r. r < row_count old table) (row ∷ rows) = All-cons (λ r. r < row_count old table) row rows alive.within f.within in
    let zero_less : list_any (nat_eq 0) (row ∷ rows) ≡ false =
    rw (ne_eqb 0 row (λ e. absurd (omega (arith, alive.above)))) (free_rows-zero old table) in
    let short : length (row ∷ rows) < row_count old table = length-rows (row ∷ rows) (row_count old table) t.some zero_less within more in
    let whole = chain-freed (link_of old table) (link_of new table) (row_count old table) row alive.above
    (omega arith) alive.unchained (λ q some other. ap (λ r. r.link) (same.others q some other)) next in
    rw (same.count, front) whole

-- ---- the chain stays sound

pub IsFreeChain-tail : (old new : List ℕ) (table row : ℕ) → IsFreeChain old table → row_count new table ≡ row_count old table
    → free_rows old table ≡ row ∷ free_rows new table → IsFreeChain new table
IsFreeChain-tail old new table row f count split = record {
  within = rw count (All-tail (λ r. r < row_count old table) row (free_rows new table) (rw split at f.within));
  once = IsDistinct-tail nat_eq row (free_rows new table) (rw split at f.once);
}

pub IsFreeChain-cons : (old new : List ℕ) (table row : ℕ) → IsFreeChain old table → IsAlive old table row
    → row_count new table ≡ row_count old table → free_rows new table ≡ row ∷ free_rows old table → IsFreeChain new table
IsFreeChain-cons old new table row f alive count split = record {
  within = rw (split, count) (All-cons (λ r. r < row_count old table) row (free_rows old table) alive.within f.within);
  once = rw split (IsDistinct-cons nat_eq row (free_rows old table) (each_fails (nat_eq row) (free_rows old table) alive.unchained) f.once);
}

none_distinct : IsDistinct nat_eq []
unfolding IsDistinct
none_distinct = tt

pub IsFreeChain-none : (pool : List ℕ) (table : ℕ) → free_rows pool table ≡ [] → IsFreeChain pool table
IsFreeChain-none pool table none = record {
  within = rw none (λ k d low. absurd (omega arith));
  once = rw none (none_distinct);
}
