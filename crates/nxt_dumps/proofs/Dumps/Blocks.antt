-- The blocks of a dump, and its layout.
use Rattle.std.proofs.Common.{◌≡◌, ℕ, zero, suc, ◌*◌, ◌≤◌, Bool, true, false, cond, List, [], ◌∷◌, map, filter, nat_lt, Some, None, refl, sym, ap, ap₂, ◌∙◌, arith, lt-ltb, eq-eqb, ne_eqb, zero-mul}
use Rattle.std.specs.Prelude.{◌==◌, if◌then◌else◌}
use Rattle.std.proofs.lemmas.Nat.{mul-le}
use Rattle.nxt_facts.proofs.Each.{Each}
use Rattle.nxt_types.specs.Pool.{round4}
use Rattle.nxt_model.specs.Reading.{Block, Memory, HeldList, dope_row, non_empty}
use Rattle.nxt_model.specs.Dump.{pool_blocks, places_of}
use Rattle.nxt_blocks.specs.Blocks.{has_bytes}
use Rattle.nxt_dumps.specs.Layouts.{Layout, blocks_of, places_in}
use Rattle.nxt_dumps.proofs.Dumps.Read.{HasStride, bytes_of}

abbrev pub part_of : Memory → HeldList → Block
part_of m l = record { place = (dope_row m l.row).place; bytes = bytes_of l }

-- where the table and the lists stand by their rows
abbrev pub layout_in : Memory → ℕ → List HeldList → Layout
layout_in m rows lists = record { table = record { place = m.table; bytes = round4 (10 * rows) }; lists = map (part_of m) lists }

-- ---- lists with elements

some_bytes : (count stride : ℕ) → 1 ≤ stride → nat_lt 0 (round4 (count * stride)) ≡ nat_lt 0 count
some_bytes zero stride some = ap (λ n. nat_lt 0 (round4 n)) (zero-mul stride)
some_bytes (suc k) stride some =
    lt-ltb 0 (round4 (suc k * stride)) (omega (arith, mul-le 1 1 (suc k) stride (omega arith) some)) ∙ sym (lt-ltb 0 (suc k) (omega arith))

none_bytes : (count stride : ℕ) → 1 ≤ stride → (round4 (count * stride) == 0) ≡ (count == 0)
none_bytes zero stride some = eq-eqb (round4 (0 * stride)) 0 (ap round4 (zero-mul stride)) ∙ sym (eq-eqb 0 0 refl)
none_bytes (suc k) stride some =
    ne_eqb (round4 (suc k * stride)) 0 (λ e. omega (arith, e, mul-le 1 1 (suc k) stride (omega arith) some)) ∙ sym (ne_eqb (suc k) 0 (λ e. omega (arith, e)))

kept_part : (m : Memory) (l : HeldList) (ls : List HeldList) (b : Bool) → map (part_of m) (cond b (l ∷ ls) ls) ≡ cond b (part_of m l ∷ map (part_of m) ls) (map (part_of m) ls)
kept_part m l ls true = refl
kept_part m l ls false = refl

some_parts : (m : Memory) (lists : List HeldList) → Each HasStride lists → map (part_of m) (non_empty lists) ≡ filter has_bytes (map (part_of m) lists)
some_parts m [] e = refl
some_parts m (l ∷ ls) e =
    kept_part m l (non_empty ls) (nat_lt 0 l.count)
    ∙ ap₂ (λ b (xs : List Block). cond b (part_of m l ∷ xs) xs) (sym (some_bytes l.count l.stride e.0)) (some_parts m ls e.1)

-- the blocks of a dump are those of its layout
pub same_blocks : (m : Memory) (rows : ℕ) (lists : List HeldList) → 1 ≤ rows → Each HasStride lists → pool_blocks m rows lists ≡ blocks_of (layout_in m rows lists)
same_blocks m rows lists some e =
    let t : Block = record { place = m.table; bytes = round4 (10 * rows) } in
    ap (λ xs. t ∷ xs) (some_parts m lists e)
    ∙ ap (λ b. cond b (t ∷ filter has_bytes (map (part_of m) lists)) (filter has_bytes (map (part_of m) lists))) (sym (lt-ltb 0 t.bytes (omega (arith, some))))

-- and so are the places of its lists
pub same_places : (m : Memory) (rows : ℕ) (lists : List HeldList) → Each HasStride lists → places_of m lists ≡ places_in (layout_in m rows lists)
same_places m rows [] e = refl
same_places m rows (l ∷ ls) e =
    ap₂ (λ b ps. (if b then None else Some (dope_row m l.row).place) ∷ ps) (sym (none_bytes l.count l.stride e.0)) (same_places m rows ls e.1)
