-- The parts of a program that keeps the rules of the assembler fit in a file.
use Rattle.std.proofs.Common.{◌≡◌, ℕ, ◌+◌, ◌*◌, ◌≤◌, Bool, true, false, ◌&&◌, ◌==◌, nat_lt, List, [], ◌∷◌, filter, flat_map, length, sum_by, Option, Some, None, refl, sym, ap, ◌∙◌, subst, length-append, arith, eq-eqb}
use Rattle.std.specs.Prelude.{IsTrue}
use Rattle.std.proofs.lemmas.Bool.{ltb-false}
use Rattle.std.proofs.lemmas.List.Sums.{sum_by-cons}
use Rattle.nxt_types.specs.Names.{size, sizes}
use Rattle.nxt_types.specs.declared.lists.ClumpRec.{ClumpRec}
use Rattle.nxt_types.specs.Pool.{round4}
use Rattle.nxt_types.specs.Refusals.{IsAccepted, passes}
use Rattle.nxt_types.specs.Shapes.{Shape, Cluster, members, leaves_bytes}
use Rattle.nxt_types.proofs.Laws.Pool.{le-round4}
use Rattle.nxt_model.specs.Values.{Value, group_of, lists_in}
use Rattle.nxt_model.specs.Footprint.{list_bytes, member_bytes}
use Rattle.nxt_model.specs.Assembled.{all_shapes, all_values, arrays_in, block_words, records_from}
use Rattle.nxt_model.specs.TextProgram.{Text, first_values, shapes, static_size, text_bytes, text_of, texts}
use Rattle.nxt_model.specs.declared.nbc.NbcBlock.{NbcBlock}
use Rattle.nxt_model.specs.declared.nbc.NbcProgram.{NbcProgram}
use Rattle.nxt_rxe.specs.Files.{HasCounts, HasDynamic, dependent_count}
use Rattle.nxt_asm_parts.specs.AssembledParts.{Valued, arrays_of, dynamic_defaults, header_of, is_array, leaves_among, parts_of, row_count, static_defaults}
use Rattle.nxt_asm_parts.specs.Fitting.{AreNarrow}
use Rattle.nxt_asm_parts.specs.Lists.{AreSmall, lists_bytes}
use Rattle.nxt_asm_parts.specs.Sound.{IsSound}
use Rattle.nxt_asm_parts.proofs.Laws.Tables.{table_fits}
use Rattle.nxt_asm_rules.specs.AsmRules.{Broken, code_size, entry_count, far_in_blocks, large_element, start_footprint}
use Rattle.nxt_asm_rules.specs.Fits.{PartsFit}
use Rattle.nxt_asm_rules.specs.declared.fault.AsmFault.TheVariants.{FarJump, TooLarge, PoolPassed}
use Rattle.nxt_asm_rules.proofs.Laws.Sums.{leaves_bytes-members, sizes-members}
use Rattle.nxt_asm_rules.proofs.Laws.DataSizes.{bytes_are, counted_below, few_rows, leaves_are, length-lists, static_is, length-static, written_below}
use Rattle.nxt_asm_rules.proofs.NarrowCode.{code_fits}
use Rattle.nxt_asm_rules.proofs.SmallLists.{length-dynamic-le, narrow_shapes, small_among}
use Rattle.nxt_asm_rules.proofs.Laws.StartFootprint.{AreStarts, all_start, rows_counted}
use Rattle.nxt_asm_rules.proofs.Laws.StartValues.{item_count}

-- ---- rules that are kept

not_true : (b : Bool) → (b ≡ true → ⊥) → b ≡ false
not_true true fails = absurd (fails refl)
not_true false fails = refl

not_over : (n m : ℕ) → (IsTrue ((n == n) && nat_lt m n) → ⊥) → n ≤ m
not_over n m fails =
    ltb-false m n (not_true (nat_lt m n) (λ over. fails (ap (λ t. t && nat_lt m n) (eq-eqb n n refl) ∙ over)))

not_passed : (o : Option ℕ) → ((n : ℕ) → IsTrue (passes (λ m. m == n) o) → ⊥) → o ≡ None
not_passed None fails = refl
not_passed (Some n) fails = absurd (fails n (eq-eqb n n refl))

-- ---- sums

dependents_summed : (here : ℕ) (bs : List NbcBlock) → length (flat_map (λ b. b.dependents) bs) ≡ dependent_count (records_from here bs)
dependents_summed here [] = refl
dependents_summed here (b ∷ bs) =
    length-append b.dependents (flat_map (λ x. x.dependents) bs)
    ∙ ap (λ n. length b.dependents + n) (dependents_summed (here + block_words b) bs)
    ∙ sym (sum_by-cons (λ (c : ClumpRec). c.dependents) (record { fire = b.fire; dependents = length b.dependents; start = here }) (records_from (here + block_words b) bs))

-- ---- room

-- the footprint holds the static bytes, the rows and the lists, as they are before they are rounded up
room_in : (a r s b c d m : ℕ) → r ≡ s → d ≡ b + c → round4 a + round4 (10 * r) + b + c ≤ m → a + 10 * s + d ≤ m
room_in a r s b c d m rows bytes small =
    by (round4 a) (10 * r) (round4 (10 * r)) (le-round4 a) (le-round4 (10 * r)) (ap (λ n. 10 * n) rows) small
  where
    by : (ra tr rr : ℕ) → a ≤ ra → tr ≤ rr → tr ≡ 10 * s → ra + rr + b + c ≤ m → a + 10 * s + d ≤ m
    by ra tr rr e f g h = omega (arith, e, f, g, h, bytes)

static_in : (a s d m : ℕ) → a + 10 * s + d ≤ m → a ≤ m
static_in a s d m room = omega (arith, room)

bytes_in : (a s d w m : ℕ) → w ≤ d → a + 10 * s + d ≤ m → w ≤ m
bytes_in a s d w m few room = omega (arith, few, room)

lists_in_room : (a r s w d m : ℕ) → r ≤ s → w ≤ d → a + 10 * (s + 1) + d ≤ m → a + 10 * (r + 1) + w ≤ m
lists_in_room a r s w d m rows written room = omega (arith, rows, written, room)

dynamic_in : (a r w l m : ℕ) → l ≤ 10 * (r + 1) + w → a + 10 * (r + 1) + w ≤ m → a + l ≤ m
dynamic_in a r w l m long room = omega (arith, long, room)

module _ (p : NbcProgram) (sound : IsSound p) (kept : IsAccepted (Broken (text_of p))) where
  abbrev t : Text
  t = text_of p

  abbrev ss : List Shape
  ss = all_shapes t

  abbrev vs : List Value
  vs = all_values t (first_values t)

  starts : AreStarts ss vs
  starts = all_start p sound.starts

  few_entries : sum_by size ss ≤ 49151
  few_entries = not_over (entry_count t) 49151 (kept (TooLarge 0 (entry_count t)))

  few_words : code_size t ≤ 65535
  few_words = not_over (code_size t) 65535 (kept (TooLarge 1 (code_size t)))

  narrow : AreNarrow (members ss)
  narrow = narrow_shapes ss (not_passed (large_element t) (λ n. kept (TooLarge 2 n)))

  near : (line : ℕ) → far_in_blocks line 0 p.blocks ≡ false
  near line = not_true (far_in_blocks line 0 p.blocks) (kept (FarJump line))

  pool : start_footprint t ≤ 32768
  pool = not_over (start_footprint t) 32768 (kept (PoolPassed (start_footprint t)))

  room : static_size t + 10 * (sum_by arrays_in ss + 1) + member_bytes (members ss) vs ≤ 32768
  room =
      room_in (static_size t) (lists_in (group_of (first_values t)) + length (texts t) + 1) (sum_by arrays_in ss + 1)
      (list_bytes (Cluster (members (shapes t))) (group_of (first_values t))) (text_bytes t) (member_bytes (members ss) vs) 32768
      (rows_counted p sound.starts) (bytes_are p sound.starts) pool

  -- ---- the table

  leaves_fit : leaves_bytes (members ss) ≤ 65535
  leaves_fit =
      by (leaves_bytes (members ss)) (static_size t) (leaves_bytes-members ss ∙ static_is t) (static_in (static_size t) (sum_by arrays_in ss + 1) (member_bytes (members ss) vs) 32768 room)
    where
      by : (a b : ℕ) → a ≡ b → b ≤ 32768 → a ≤ 65535
      by a b e f = omega (arith, e, f)

  sizes_fit : sizes (members ss) ≤ 49151
  sizes_fit = subst (λ n. n ≤ 49151) (sym (sizes-members ss)) few_entries

  -- ---- lists

  abbrev leaves : List Valued
  leaves = leaves_among (members ss) vs

  abbrev arrays : List Valued
  arrays = filter is_array leaves

  arrays_are : arrays_of t ≡ arrays
  arrays_are = ap (filter is_array) (leaves_are t)

  lists_fit : static_size t + 10 * (length arrays + 1) + length (lists_bytes arrays) ≤ 32768
  lists_fit =
      lists_in_room (static_size t) (length arrays) (sum_by arrays_in ss) (length (lists_bytes arrays)) (member_bytes (members ss) vs) 32768
      (few_rows ss vs) (subst (λ n. n ≤ member_bytes (members ss) vs) (sym (length-lists leaves)) (written_below ss vs starts)) room

  small : AreSmall arrays
  small =
      small_among (members ss) vs narrow
      (by (sum_by item_count leaves) (bytes_in (static_size t) (sum_by arrays_in ss + 1) (member_bytes (members ss) vs) (sum_by item_count leaves) 32768 (counted_below ss vs starts) room))
    where
      by : (n : ℕ) → n ≤ 32768 → n ≤ 65535
      by n e = omega (arith, e)

  table_room : static_size t + 10 * row_count t + length (lists_bytes (arrays_of t)) ≤ 32768
  table_room = subst (λ as'. static_size t + 10 * (length as' + 1) + length (lists_bytes as') ≤ 32768) (sym arrays_are) lists_fit

  dynamic_room : static_size t + length (dynamic_defaults t) ≤ 32768
  dynamic_room =
      dynamic_in (static_size t) (length (arrays_of t)) (length (lists_bytes (arrays_of t))) (length (dynamic_defaults t)) 32768
      (length-dynamic-le (static_size t) (arrays_of t)) table_room

  -- ---- what is written can be read again

  has_counts : HasCounts (parts_of t)
  has_counts = record {
    toc = refl;
    defaults = length-append (static_defaults t) (dynamic_defaults t);
    clumps = refl;
    dependents = dependents_summed 0 p.blocks;
    code = refl;
  }

  has_dynamic : HasDynamic (header_of t)
  has_dynamic = record { defaults = λ some. same (length (static_defaults t) + length (dynamic_defaults t)); dataspace = same (static_size t + length (dynamic_defaults t)) }
    where
      same : (n : ℕ) → n ≤ n
      same n = omega arith

  all_fit : PartsFit t
  all_fit = record {
    entries = sizes_fit;
    places = table_fits (members ss) sizes_fit leaves_fit narrow;
    size = few_words;
    code = code_fits t few_entries 0 p.blocks near sound.named sound.short sound.codable;
    small = subst AreSmall (sym arrays_are) small;
    lists = table_room;
    static = length-static t starts;
    dataspace = dynamic_room;
    counts = has_counts;
    dynamic = has_dynamic;
  }

-- the parts of a program that keeps the rules of the assembler fit in a file
pub parts_fit : (p : NbcProgram) → IsSound p → IsAccepted (Broken (text_of p)) → PartsFit (text_of p)
parts_fit p sound kept = all_fit p sound kept
