-- A right dump shows a layout.
use Rattle.std.proofs.Common.{◌≡◌, ℕ, suc, ◌+◌, ◌*◌, ◌≤◌, ◌<◌, inl, inr, true, List, [], ◌∷◌, map, All, refl, sym, ap, ap₂, ◌∙◌, subst, arith, ltb-true, nat_le}
use Rattle.std.specs.Prelude.{max, fold}
use Rattle.std.proofs.lemmas.Bool.{or_cases, leb-true}
use Rattle.nxt_facts.specs.Pairs.{EachPair}
use Rattle.nxt_facts.proofs.Each.{Each, each_then, each_filter, each_from}
use Rattle.nxt_facts.proofs.Pairs.{each_pair}
use Rattle.nxt_types.specs.Pool.{round4, pool_size}
use Rattle.nxt_model.specs.Values.{elements}
use Rattle.nxt_model.specs.Reading.{Block, HeldList, AreApart}
use Rattle.nxt_model.specs.Dump.{Content, Dump, Shows, mark_of, memory_of, pool_blocks, greatest_end}
use Rattle.nxt_blocks.specs.Blocks.{has_bytes, unsettled}
use Rattle.nxt_blocks.specs.Standing.{IsApart, Stand}
use Rattle.nxt_dumps.specs.Holdable.{IsHoldable, lengths_for, base_for}
use Rattle.nxt_dumps.specs.Layouts.{Lawful, Obeys, all_of}
use Rattle.nxt_dumps.proofs.Dumps.Blocks.{layout_in, part_of, same_blocks, same_places}
use Rattle.nxt_dumps.proofs.Dumps.Read.{bytes_of, members_lengths, members_strides}
use Rattle.nxt_dumps.proofs.Layouts.Lawful.{first_mark, first_obeys}

-- ---- blocks

pub each_of_all : {X : Type 0} (P : X → Type 0) (xs : List X) → All P xs → Each P xs
each_of_all P [] all = tt
each_of_all P (x ∷ xs) all = (all 0 x (omega arith), each_of_all P xs (λ k d less. all (suc k) d (omega (arith, less))))

is_apart : (a b : Block) → AreApart a b → IsApart a b
is_apart a b e = elim (or_cases (nat_le (a.place + a.bytes) b.place) (nat_le (b.place + b.bytes) a.place) e) [
  | inl l ↦ inl (leb-true (a.place + a.bytes) b.place l)
  | inr l ↦ inr (leb-true (b.place + b.bytes) a.place l)
]

pairs_apart : (xs : List Block) → EachPair AreApart xs → EachPair IsApart xs
pairs_apart [] e = tt
pairs_apart (x ∷ xs) e = (each_then (AreApart x) (IsApart x) (is_apart x) xs e.0, pairs_apart xs e.1)

abbrev end_from : ℕ → List Block → ℕ
end_from start blocks = fold (λ most b. max most (b.place + b.bytes)) start blocks

start_below : (xs : List Block) (start : ℕ) → start ≤ end_from start xs
start_below [] start = omega arith
start_below (x ∷ xs) start = omega (arith, start_below xs (max start (x.place + x.bytes)))

ends_within : (xs : List Block) (start : ℕ) → Each (λ b. b.place + b.bytes ≤ end_from start xs) xs
ends_within [] start = tt
ends_within (x ∷ xs) start = (omega (arith, start_below xs (max start (x.place + x.bytes))), ends_within xs (max start (x.place + x.bytes)))

-- each block ends by the greatest end
pub all_within : (xs : List Block) → Each (λ b. b.place + b.bytes ≤ greatest_end xs) xs
all_within xs = ends_within xs 0

-- ---- the layout

-- which keeps the laws of the mark that the dump leaves
pub shown_lawful : (c : Content) (d : Dump) (lists : List HeldList) → IsHoldable c → Shows c d lists → Lawful (base_for c) (lengths_for c) (mark_of c d lists)
shown_lawful c d lists h e =
    let m = memory_of c d in
    let l = layout_in m d.rows lists in
    let base = base_for c in
    let strides = members_strides m 0 c.shapes c.static_size h.spans.fit 0 (elements c.values) lists e.reads.variables in
    let same = same_blocks m d.rows lists (omega (arith, h.rows, e.rows)) strides in
    let blocks = pool_blocks m d.rows lists in
    let stand : Stand base pool_size blocks = record {
      apart = pairs_apart blocks (each_pair AreApart blocks e.blocks.apart);
      some = subst (Each (λ b. 0 < b.bytes)) (sym same) (each_filter (λ b. 0 < b.bytes) has_bytes (all_of l) (each_from (λ b. has_bytes b ≡ true → 0 < b.bytes) (λ b has. ltb-true 0 b.bytes has) (all_of l)));
      above = each_of_all (λ b. base ≤ b.place) blocks e.blocks.above;
      within = each_then (λ b. b.place + b.bytes ≤ greatest_end blocks) (λ b. b.place + b.bytes ≤ pool_size) (λ b low. omega (arith, low, e.blocks.end, e.blocks.inside)) blocks (all_within blocks);
    } in
    let mark : first_mark base l ≡ mark_of c d lists =
    ap₂ (λ n ps. record { unsettled = n; places = ps; settled = 0; quiet = true; standing = true })
    (ap (unsettled base) (sym same) ∙ sym e.blocks.unsettled)
    (sym (same_places m d.rows lists strides)) in
    record {
      layout = l;
      lengths_are = ap₂ (λ n ns. round4 (10 * n) ∷ ns) e.rows (map_map lists ∙ members_lengths m 0 c.shapes 0 (elements c.values) lists e.reads.variables);
      stand = subst (Stand base pool_size) same stand;
      obeys = subst (λ k. Obeys base k l) mark (first_obeys base l);
    }
  where
    map_map : (ls : List HeldList) → map (λ (b : Block). b.bytes) (map (part_of (memory_of c d)) ls) ≡ map bytes_of ls
    map_map [] = refl
    map_map (x ∷ xs) = ap (λ ns. bytes_of x ∷ ns) (map_map xs)
