-- The variables are held with a part that is stored.
use Rattle.std.proofs.Common.{◌≡◌, ℕ, zero, suc, inl, inr, Bool, true, false, ◌||◌, ◌==◌, List, [], ◌∷◌, ◌++◌, length, set, get_or, Option, Some, None, is_some, refl, sym, ap, ◌∙◌, subst, eqb-true}
use Rattle.std.specs.Prelude.{ℤ}
use Rattle.std.specs.List.{list_any}
use Rattle.std.proofs.lemmas.List.Folds.{list_any-append}
use Rattle.nxt_types.specs.Shapes.{Shape, Members}
use Rattle.nxt_types.specs.declared.shape.TocEntry.{TocEntry}
use Rattle.nxt_model.specs.Values.{Value, group_of}
use Rattle.nxt_facts.proofs.Each.{Each, each_from, each_then, each_both, each_apart, each_join}
use Rattle.nxt_facts.proofs.Pairs.{all_pairs}
use Rattle.nxt_heap.specs.Lists.{Lists, ByteList, list_at, with_list, IsAlive}
use Rattle.nxt_values.specs.Held.{value_at, values_among, values_in, rows_among, HoldAll, IsHeld}
use Rattle.nxt_facts.specs.Pairs.{EachPair}
use Rattle.nxt_model.specs.Spans.{HasSpans, spans_among}
use Rattle.nxt_values.specs.Writes.{without, IsOther}
use Rattle.nxt_values.specs.Fills.{Fills, filled}
use Rattle.nxt_values.specs.declared.reading.Region.TheVariants.{Static}
use Rattle.nxt_facts.proofs.Pairs.{Across, pair_parts, each_pair}
use Rattle.nxt_values.proofs.Hold.Frames.{KeepsList}
use Rattle.nxt_values.proofs.Fill.Growing.{apart_rows}
use Rattle.nxt_facts.proofs.Pairs.{pair_join}
use Rattle.nxt_values.proofs.Laws.HeldRows.{all_alive}
use Rattle.nxt_values.proofs.Laws.StoredPart.{StandsAmong, with_value_among, gone_rows, IsStored, Replaced, replaced_among, flipped}
use Rattle.nxt_values.proofs.Laws.Without.{Differ, others_kept}

-- ---- rows that are gone

set_none : (xs : List (Option ByteList)) (q r : ℕ) → get_or xs r None ≡ None → get_or (set xs q None) r None ≡ None
set_none [] q r e = e
set_none (x ∷ xs) zero zero e = refl
set_none (x ∷ xs) zero (suc r) e = e
set_none (x ∷ xs) (suc q) zero e = e
set_none (x ∷ xs) (suc q) (suc r) e = set_none xs q r e

set_gone : (xs : List (Option ByteList)) (q : ℕ) → get_or (set xs q None) q None ≡ None
set_gone [] q = refl
set_gone (x ∷ xs) zero = refl
set_gone (x ∷ xs) (suc q) = set_gone xs q

none_stays : (h : Lists) (gone : List ℕ) (r : ℕ) → list_at h r ≡ None → list_at (without h gone) r ≡ None
none_stays h [] r e = e
none_stays h (x ∷ xs) r e = none_stays (with_list h x None) xs r (set_none h.by_row x r e)

gone_by : (h : Lists) (x r : ℕ) (xs : List ℕ) (b : Bool) → (x == r) ≡ b → (list_any (λ q. q == r) xs ≡ true → list_at (without (with_list h x None) xs) r ≡ None) → (b || list_any (λ q. q == r) xs) ≡ true → list_at (without (with_list h x None) xs) r ≡ None
gone_by h x r xs true is k e =
    none_stays (with_list h x None) xs r (subst (λ q. list_at (with_list h q None) r ≡ None) (sym (eqb-true x r is)) (set_gone h.by_row r))
gone_by h x r xs false is k e = k e

is_gone : (h : Lists) (gone : List ℕ) (r : ℕ) → list_any (λ q. q == r) gone ≡ true → list_at (without h gone) r ≡ None
is_gone h [] r e = let f : ⊥ = cc in absurd f
is_gone h (x ∷ xs) r e = gone_by h x r xs (x == r) refl (λ k. is_gone (with_list h x None) xs r k) e

was_alive : (h : Lists) (gone : List ℕ) (r : ℕ) (o : Option ByteList) → list_at h r ≡ o → IsAlive (without h gone) r → IsAlive h r
was_alive h gone r None is alive = let f : ⊥ = cc (alive, ap is_some (none_stays h gone r is)) in absurd f
was_alive h gone r (Some l) is alive = ap is_some is

-- of a row that isn't gone
still_named : (a b c d : Bool) → (b ≡ true → ⊥) → (a || (b || c)) ≡ true → (a || (d || c)) ≡ true
still_named true b c d hidden e = refl
still_named false true c d hidden e = let f : ⊥ = hidden refl in absurd f
still_named false false true true hidden e = refl
still_named false false true false hidden e = refl
still_named false false false d hidden e = let f : ⊥ = cc in absurd f

new_named : (a c d : Bool) → d ≡ true → (a || (d || c)) ≡ true
new_named true c d e = refl
new_named false c true e = refl
new_named false c false e = let f : ⊥ = cc in absurd f

any_three : (p : ℕ → Bool) (xs ys zs : List ℕ) → list_any p (xs ++ (ys ++ zs)) ≡ (list_any p xs || (list_any p ys || list_any p zs))
any_three p xs ys zs = list_any-append p xs (ys ++ zs) ∙ ap (λ b. list_any p xs || b) (list_any-append p ys zs)

-- ---- the law

kept_alive : (h : Lists) (gone rows : List ℕ) → Each (IsAlive h) rows → Across Differ gone rows → Each (IsAlive (without h gone)) rows
kept_alive h gone rows alive apart =
    each_both (IsAlive h) (KeepsList h (without h gone)) (IsAlive (without h gone)) (λ r a k. ap is_some k ∙ a) rows alive (others_kept h gone rows apart)

across_three : (before gone after : List ℕ) → Across Differ before (gone ++ after) → Across Differ before gone × Across Differ before after
across_three before gone after e = (
  each_then (λ x. Each (Differ x) (gone ++ after)) (λ x. Each (Differ x) gone) (λ x all. (each_apart (Differ x) gone after all).0) before e,
  each_then (λ x. Each (Differ x) (gone ++ after)) (λ x. Each (Differ x) after) (λ x all. (each_apart (Differ x) gone after all).1) before e,
)

own_still : (h : Lists) (before gone fresh after : List ℕ) → EachPair Differ (before ++ (gone ++ after)) → EachPair Differ fresh → Each (λ r. list_at (without h gone) r ≡ None) fresh → Each (IsAlive h) before → Each (IsAlive h) after → EachPair Differ (before ++ (fresh ++ after))
own_still h before gone fresh after own new free alive living =
    let f = without h gone in
    let outer = pair_parts Differ before (gone ++ after) own in
    let inner = pair_parts Differ gone after outer.rest in
    let two = across_three before gone after outer.across in
    let first = apart_rows f before fresh (kept_alive h gone before alive (flipped before gone two.0)) free in
    let last = flipped after fresh (apart_rows f after fresh (kept_alive h gone after living inner.across) free) in
    let both : Across Differ before (fresh ++ after) =
    each_both
    (λ x. Each (Differ x) fresh)
    (λ x. Each (Differ x) after)
    (λ x. Each (Differ x) (fresh ++ after))
    (λ x a b. each_join (Differ x) fresh after a b)
    before
    first
    two.1
    in
    pair_join Differ before (fresh ++ after) outer.first (pair_join Differ fresh after new inner.rest last) both

-- a part of the variables is freed and filled
abbrev Parts : List TocEntry → (ss : Members) → Lists → Lists → (s : Shape) (j : ℕ) → StandsAmong ss 0 s j → Type 0
Parts table ss h g s j part =
    Replaced table h g Static 0 s j (spans_among table ss 0) (rows_among table h ss 0 h.static_bytes 0) (rows_among table g ss 0 g.static_bytes 0) (values_among table h ss 0 h.static_bytes 0) (values_among table g ss 0 g.static_bytes 0) (with_value_among table h Static 0 s j ss 0 part)

replaced : (table : List TocEntry) (ss : Members) (h g : Lists) (s : Shape) (j : ℕ) (zs rest : List ℤ) → IsHeld table ss h → HasSpans table ss (length h.static_bytes) → (part : StandsAmong ss 0 s j) → Fills table (without h (gone_rows table h Static 0 s j)) g s j Static 0 zs rest → HoldAll table g ss 0 g.static_bytes 0 × Parts table ss h g s j part
replaced table ss h g s j zs rest e room part fills =
    let old = rows_among table h ss 0 h.static_bytes 0 in
    let gone = gone_rows table h Static 0 s j in
    let stored : IsStored table h g Static 0 s j zs rest = record { there = tt; other = each_from (IsOther Static) (λ r. tt) gone; fills = fills } in
    replaced_among table h g Static 0 s j zs rest stored ss 0 part e.holds room.apart (record { own = each_pair Differ old e.own; other = each_from (IsOther Static) (λ r. tt) old })

-- the variables' values with another one for the part
abbrev pub with_part_value : List TocEntry → (ss : Members) → Lists → (s : Shape) (j : ℕ) → StandsAmong ss 0 s j → Value → Value
with_part_value table ss h s j part v = group_of (with_value_among table h Static 0 s j ss 0 part v)

-- what the numbers begin with is the part's value, and the other values stay
pub stored_values : (table : List TocEntry) (ss : Members) (h g : Lists) (s : Shape) (j : ℕ) (zs rest : List ℤ) → IsHeld table ss h → HasSpans table ss (length h.static_bytes) → (part : StandsAmong ss 0 s j) → Fills table (without h (gone_rows table h Static 0 s j)) g s j Static 0 zs rest → values_in table ss g ≡ with_part_value table ss h s j part (filled s zs).0
stored_values table ss h g s j zs rest e room part fills =
    ap group_of (replaced table ss h g s j zs rest e room part fills).1.value_is
    ∙ ap (with_part_value table ss h s j part) fills.value

-- and where the part's value is the old one, they are the old values
pub same_values : (table : List TocEntry) (ss : Members) (h g : Lists) (s : Shape) (j : ℕ) (zs rest : List ℤ) → IsHeld table ss h → HasSpans table ss (length h.static_bytes) → (part : StandsAmong ss 0 s j) → Fills table (without h (gone_rows table h Static 0 s j)) g s j Static 0 zs rest → values_in table ss h ≡ with_part_value table ss h s j part (value_at table h s j h.static_bytes 0)
same_values table ss h g s j zs rest e room part fills =
    ap group_of (replaced table ss h g s j zs rest e room part fills).1.value_was

-- where the part keeps its rows, so do all variables
pub stored_rows : (table : List TocEntry) (ss : Members) (h g : Lists) (s : Shape) (j : ℕ) (zs rest : List ℤ) → IsHeld table ss h → HasSpans table ss (length h.static_bytes) → (part : StandsAmong ss 0 s j) → Fills table (without h (gone_rows table h Static 0 s j)) g s j Static 0 zs rest → gone_rows table g Static 0 s j ≡ gone_rows table h Static 0 s j → rows_among table g ss 0 g.static_bytes 0 ≡ rows_among table h ss 0 h.static_bytes 0
stored_rows table ss h g s j zs rest e room part fills same =
    let r = (replaced table ss h g s j zs rest e room part fills).1 in
    r.has ∙ ap (λ rows. r.before ++ (rows ++ r.after)) same ∙ sym r.had

-- the variables are held again
pub stored_held : (table : List TocEntry) (ss : Members) (h g : Lists) (s : Shape) (j : ℕ) (zs rest : List ℤ) → IsHeld table ss h → HasSpans table ss (length h.static_bytes) → (part : StandsAmong ss 0 s j) → Fills table (without h (gone_rows table h Static 0 s j)) g s j Static 0 zs rest → IsHeld table ss g
stored_held table ss h g s j zs rest e room part fills =
    let old = rows_among table h ss 0 h.static_bytes 0 in
    let new = rows_among table g ss 0 g.static_bytes 0 in
    let gone = gone_rows table h Static 0 s j in
    let fresh = gone_rows table g Static 0 s j in
    let own = each_pair Differ old e.own in
    let both = replaced table ss h g s j zs rest e room part fills in
    let r = both.1 in
    let alive = subst (Each (IsAlive h)) r.had (all_alive table h ss 0 h.static_bytes 0 e.holds) in
    let parts = each_apart (IsAlive h) r.before (gone ++ r.after) alive in
    let behind = each_apart (IsAlive h) gone r.after parts.1 in
    let pairs = own_still h r.before gone fresh r.after (subst (EachPair Differ) r.had own) fills.grows.own fills.grows.fresh parts.0 behind.1 in
    record {
      spelled = e.spelled;
      holds = both.0;
      own = all_pairs Differ new (subst (EachPair Differ) (sym r.has) pairs);
      named = λ row living.
          let p : ℕ → Bool = λ q. q == row in
          let total = ap (list_any p) r.has ∙ any_three p r.before fresh r.after in
          elim (fills.grows.named row living) [
            | inl before ↦
                let had = sym (any_three p r.before gone r.after) ∙ sym (ap (list_any p) r.had) ∙ e.named row (was_alive h gone row (list_at h row) refl before) in
                total
                ∙ still_named
                (list_any p r.before)
                (list_any p gone)
                (list_any p r.after)
                (list_any p fresh)
                (λ any. let f : ⊥ = cc (before, ap is_some (is_gone h gone row any)) in f)
                had
            | inr any ↦ total ∙ new_named (list_any p r.before) (list_any p r.after) (list_any p fresh) any
          ];
    }
