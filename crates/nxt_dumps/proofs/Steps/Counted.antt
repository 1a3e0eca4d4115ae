-- What a program counts, by the lengths of the lists in its variables.
use Rattle.std.proofs.Common.{◌≡◌, ℕ, true, List, ◌++◌, length, sym, ap, ◌∙◌, subst, arith}
use Rattle.nxt_types.specs.Shapes.{Cluster}
use Rattle.nxt_model.specs.Values.{Value, group_of, elements, is_of}
use Rattle.nxt_model.specs.Report.{Setting}
use Rattle.nxt_model.proofs.Laws.Values.{items-values}
use Rattle.nxt_dumps.specs.Layouts.{AtMost}
use Rattle.nxt_dumps.specs.Lengths.{lengths_in, lengths_among}
use Rattle.nxt_dumps.specs.Runnable.{IsRunnable, joined}
use Rattle.nxt_dumps.proofs.Lengths.Sums.{whole, lengths_sum, lengths_count, joined_lengths, group_are, at_most_same, at_most_joined}

module _ (s : Setting) (r : IsRunnable s) where
  abbrev pub own_lengths : Value → List ℕ
  own_lengths v = lengths_in (Cluster r.own) v

  abbrev pub all_lengths : Value → List ℕ
  all_lengths v = lengths_in (Cluster (joined r.own r.fixed)) (group_of (elements v ++ r.constants))

  abbrev pub Own : Value → Type 0
  Own v = is_of (Cluster r.own) v ≡ true

  -- the constants' lists come behind those of the variables
  split : (v : Value) → Own v → all_lengths v ≡ own_lengths v ++ lengths_among r.fixed r.constants
  split v e =
      ap (lengths_among (joined r.own r.fixed)) (items-values (elements v ++ r.constants))
      ∙ joined_lengths r.own r.fixed (elements v) r.constants (group_are r.own v e)

  pub same_all : (v w : Value) → Own v → Own w → own_lengths w ≡ own_lengths v → all_lengths w ≡ all_lengths v
  same_all v w e f same = split w f ∙ ap (λ ns. ns ++ lengths_among r.fixed r.constants) same ∙ sym (split v e)

  pub at_most_all : (v w : Value) → Own v → Own w → AtMost (own_lengths v) (own_lengths w) → AtMost (all_lengths v) (all_lengths w)
  at_most_all v w e f less =
      let more = lengths_among r.fixed r.constants in
      subst (λ ns. AtMost ns (all_lengths w)) (sym (split v e))
      (subst (λ ns. AtMost (own_lengths v ++ more) ns) (sym (split w f)) (at_most_joined (own_lengths v) (own_lengths w) more more less (at_most_same more)))

  -- as many lists
  pub same_lists : (v w : Value) → Own v → Own w → length (own_lengths w) ≡ length (own_lengths v) → s.program.lists w ≡ s.program.lists v
  same_lists v w e f same =
      omega (arith, r.lists v e, r.lists w f, same, lengths_count (Cluster r.own) v e, lengths_count (Cluster r.own) w f)

  -- as many bytes
  pub same_footprint : (rows : ℕ) (v w : Value) → Own v → Own w → own_lengths w ≡ own_lengths v → s.program.footprint rows w ≡ s.program.footprint rows v
  same_footprint rows v w e f same =
      let all = Cluster (joined r.own r.fixed) in
      omega (
        arith,
        r.footprint_is rows v e,
        r.footprint_is rows w f,
        lengths_sum all (group_of (elements v ++ r.constants)),
        lengths_sum all (group_of (elements w ++ r.constants)),
        ap whole (same_all v w e f same),
      )
