-- The parts of an assembled text keep the rules of layout, and start with its values.
use Rattle.std.proofs.Common.{◌≡◌, ℕ, ◌+◌, ◌*◌, ◌≤◌, Bool, true, false, ◌&&◌, ◌||◌, ◌==◌, nat_lt, List, ◌++◌, filter, length, max, sum_by, if◌then◌else◌, refl, sym, ap, ap₂, subst, ◌∙◌, arith, eq-eqb, ltb-false}
use Rattle.std.specs.Prelude.{IsTrue}
use Rattle.std.proofs.lemmas.Bool.{false_from_ne_true}
use Rattle.nxt_types.specs.Pool.{pool_size, round4, row_size}
use Rattle.nxt_types.specs.Refusals.{IsAccepted}
use Rattle.nxt_types.specs.Shapes.{Shape, Void, Number, Array, Cluster, Mutex, Members, no_members, member, members, bare, bares, has_list, some_list}
use Rattle.nxt_rxe.specs.declared.parts.Parts.{Parts}
use Rattle.nxt_model.specs.Assembled.{all_shapes, all_values, arrays_in, assembled}
use Rattle.nxt_model.specs.Footprint.{list_bytes, member_bytes}
use Rattle.nxt_model.specs.Reading.{row_count}
use Rattle.nxt_model.specs.TextProgram.{Text, first_values, shapes, static_size, text_bytes, text_of, texts}
use Rattle.nxt_model.specs.Values.{Value, group_of, lists_in}
use Rattle.nxt_model.specs.declared.nbc.NbcProgram.{NbcProgram}
use Rattle.nxt_model.proofs.Laws.Values.{items-values}
use Rattle.nxt_nbc.specs.Checked.{IsParsed}
use Rattle.nxt_asm_parts.specs.AssembledParts.{defaults_from, dope_place, dynamic_of, is_array, parts_of}
use Rattle.nxt_asm_parts.specs.Lists.{AreSmall}
use Rattle.nxt_asm_parts.specs.Sound.{IsSound}
use Rattle.nxt_layout.specs.LayoutRules as layout_rules
use Rattle.nxt_layout.specs.Start as layout
use Rattle.nxt_layout.specs.Start.{StartsAs, file_rows, memory, rows_at_start}
use Rattle.nxt_asm_rules.specs.AsmRules.{Broken, start_footprint}
use Rattle.nxt_asm_rules.specs.Fits.{PartsFit}
use Rattle.nxt_asm_rules.specs.declared.fault.AsmFault.TheVariants.{PoolPassed}
use Rattle.nxt_asm_rules.proofs.Laws.DataSizes.{bytes_are, few_rows, leaves_are}
use Rattle.nxt_asm_rules.proofs.Laws.Fitting.{parts_fit}
use Rattle.nxt_asm_laws.proofs.Laws.Texts.{sound}
use Rattle.nxt_asm_rules.proofs.Laws.StartFootprint.{AreStarts, all_start, lists_counted, rows_counted}
use Rattle.nxt_asm_rules.proofs.Laws.Sums.{arrays_among-members}
use Rattle.nxt_asm_laws_layout.proofs.Laws.TableAccepted.{has_table, static_bytes_are}
use Rattle.nxt_asm_laws_layout.proofs.Laws.Dataspace.{HasData}
use Rattle.nxt_asm_laws_layout.proofs.Starts.{arrays, row_total}
use Rattle.nxt_asm_laws_layout.proofs.LayoutStart.{same_memory, starts}
use Rattle.nxt_asm_laws_layout.proofs.RowTests.{some_array}
use Rattle.nxt_asm_laws_layout.proofs.RowsKept.{layout_kept}
use Rattle.nxt_asm_laws_layout.proofs.ShownTexts.{values_held}

-- ---- lists

mutual
  list-bare : (s : Shape) → has_list (bare s) ≡ has_list s
  list-bare Void = refl
  list-bare (Number k) = refl
  list-bare (Array n s) = refl
  list-bare (Cluster ss) = some_list-bares ss
  list-bare Mutex = refl

  some_list-bares : (ss : Members) → some_list (bares ss) ≡ some_list ss
  some_list-bares no_members = refl
  some_list-bares (member s ss) = ap₂ (λ (a b : Bool). a || b) (list-bare s) (some_list-bares ss)

-- the table has no more rows than there are arrays, and its own
few_file_rows : (p : Parts) (ss : Members) (vs : List Value) (h : HasData p ss vs) (n : ℕ) → length (arrays p ss vs h) ≤ n → file_rows p ss ≤ n + 1
few_file_rows p ss vs h n few = by (some_list ss) refl
  where
    by : (b : Bool) → some_list ss ≡ b → (if b then row_count (memory p ss) else 1) ≤ n + 1
    by false e = omega arith
    by true e =
        let total = row_total p ss vs h (some_array ss vs h.held (some_list-bares ss ∙ e)) in
        let same : row_count (memory p ss) ≡ row_count (memory p (bares ss)) = ap row_count (same_memory p ss vs h) in
        omega (arith, total, same, few)

not_over : (n m : ℕ) → (IsTrue ((n == n) && nat_lt m n) → ⊥) → n ≤ m
not_over n m fails =
    ltb-false m n (false_from_ne_true (nat_lt m n) (λ over. fails (ap (λ t. t && nat_lt m n) (eq-eqb n n refl) ∙ over)))

module _ (text : List ℕ) (p : NbcProgram) (parsed : IsParsed text p) (kept : IsAccepted (Broken (text_of p))) where
  abbrev t : Text
  t = text_of p

  abbrev ss : Members
  ss = members (all_shapes t)

  abbrev vs : List Value
  vs = all_values t (first_values t)

  is_sound : IsSound p
  is_sound = sound text p parsed

  fits : PartsFit t
  fits = parts_fit p is_sound kept

  has_data : HasData (parts_of t) ss vs
  has_data = record {
    table = has_table text p parsed kept;
    held = values_held text p parsed;
    static = sym (static_bytes_are t);
    defaults = ap (λ ls. defaults_from 1 ls ++ dynamic_of (static_size t) (filter is_array ls)) (leaves_are t);
    dyn_at = fits.static ∙ sym (static_bytes_are t);
    dyn_size = ap (λ ls. length (dynamic_of (static_size t) (filter is_array ls))) (leaves_are t);
    initial = refl;
    dope = ap (λ ls. dope_place (static_size t) (filter is_array ls)) (leaves_are t);
    small = subst (λ ls. AreSmall (filter is_array ls)) (leaves_are t) fits.small;
    room = subst (λ ls. static_size t + length (dynamic_of (static_size t) (filter is_array ls)) ≤ 32768) (leaves_are t) fits.dataspace;
  }

  all : AreStarts (all_shapes t) vs
  all = all_start p is_sound.starts

  rows_by : rows_at_start (parts_of t) ss (group_of vs) ≡ sum_by arrays_in (all_shapes t) + 1
  rows_by =
      let most = few_file_rows (parts_of t) ss vs has_data (sum_by arrays_in (all_shapes t)) (few_rows (all_shapes t) vs) in
      let count : lists_in (group_of vs) ≡ sum_by arrays_in (all_shapes t) = lists_counted (all_shapes t) vs all in
      by (file_rows (parts_of t) ss) (lists_in (group_of vs)) (sum_by arrays_in (all_shapes t)) most count
    where
      by : (a b c : ℕ) → a ≤ c + 1 → b ≡ c → max a (b + 1) ≡ c + 1
      by a b c e f = omega (arith, e, f)

  footprint_by : layout.start_footprint (parts_of t) ss (group_of vs) ≡ start_footprint t
  footprint_by =
      let more = rows_counted p is_sound.starts in
      ap₂ (λ (rows bytes : ℕ). round4 (static_size t) + round4 (row_size * rows) + bytes) (rows_by ∙ sym more)
      (ap (member_bytes ss) (items-values vs) ∙ bytes_are p is_sound.starts)
      ∙ by (round4 (static_size t) + round4 (row_size * (lists_in (group_of (first_values t)) + length (texts t) + 1)))
      (list_bytes (Cluster (members (shapes t))) (group_of (first_values t))) (text_bytes t)
    where
      by : (a b c : ℕ) → a + (b + c) ≡ a + b + c
      by a b c = omega arith

  within : layout.start_footprint (parts_of t) ss (group_of vs) ≤ pool_size
  within =
      let same = footprint_by in
      let less = not_over (start_footprint t) 32768 (kept (PoolPassed (start_footprint t))) in
      by (layout.start_footprint (parts_of t) ss (group_of vs)) (start_footprint t) same less
    where
      by : (a b : ℕ) → a ≡ b → b ≤ 32768 → a ≤ 32768
      by a b e f = omega (arith, e, f)

  accepted : IsAccepted (layout_rules.Broken (parts_of t))
  accepted = layout_kept (parts_of t) ss vs has_data within

  started : StartsAs (parts_of t) ss (group_of vs)
  started = starts (parts_of t) ss vs has_data

-- no rule of layout is broken
pub layout_accepted : (text : List ℕ) (p : NbcProgram) → IsParsed text p → IsAccepted (Broken (text_of p)) → IsAccepted (layout_rules.Broken (parts_of (text_of p)))
layout_accepted text p parsed kept = accepted text p parsed kept

-- the dataspace reads as the values with which the text's image starts
pub starts_as : (text : List ℕ) (p : NbcProgram) → IsParsed text p → IsAccepted (Broken (text_of p))
    → StartsAs (parts_of (text_of p)) (members (all_shapes (text_of p))) (assembled (text_of p)).values
starts_as text p parsed kept = started text p parsed kept

-- the rows at the start are the image's
pub rows_are : (text : List ℕ) (p : NbcProgram) → IsParsed text p → IsAccepted (Broken (text_of p))
    → rows_at_start (parts_of (text_of p)) (members (all_shapes (text_of p))) (assembled (text_of p)).values ≡ (assembled (text_of p)).rows
rows_are text p parsed kept = rows_by text p parsed kept ∙ ap (λ n. n + 1) (sym (arrays_among-members (all_shapes (text_of p))))

-- and the start takes as many bytes of the pool
pub footprint_is : (text : List ℕ) (p : NbcProgram) → IsParsed text p → IsAccepted (Broken (text_of p))
    → layout.start_footprint (parts_of (text_of p)) (members (all_shapes (text_of p))) (assembled (text_of p)).values ≡ start_footprint (text_of p)
footprint_is text p parsed kept = footprint_by text p parsed kept
