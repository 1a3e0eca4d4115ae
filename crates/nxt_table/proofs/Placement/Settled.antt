-- What the passes settle for the leaves and their defaults.
use Rattle.std.proofs.Common.{◌≡◌, ℕ, ◌+◌, ◌%◌, ◌≤◌, List, [], ◌∷◌, refl, sym, ap, ◌∙◌, arith, Bool, true, false, cond, get_or, All, Option, Some, None}
use Rattle.std.proofs.lemmas.Bool.{and_parts}
use Rattle.std.proofs.lemmas.Bool.Decides.{nat_tests}
use Rattle.std.proofs.lemmas.List.Elements.{All-nil, All-cons, All-append}
use Rattle.std.specs.Prelude.{find, nat_lt, ◌==◌, option_map, is_none, if◌then◌else◌}
use Rattle.nxt_types.specs.Shapes.{outline}
use Rattle.nxt_rxe.specs.declared.parts.Parts.{Parts}
use Rattle.nxt_table.specs.declared.fault.TableFault.{TableFault}
use Rattle.nxt_table.specs.declared.fault.TableFault.TheVariants as faults
use Rattle.nxt_table.specs.declared.item.Item.{Item}
use Rattle.nxt_table.specs.declared.item.Item.TheVariants as items
use Rattle.nxt_table.specs.declared.enclosing.NestedEntry.{NestedEntry}
use Rattle.nxt_table.specs.declared.leaves.PlacedLeaf.{PlacedLeaf}
use Rattle.nxt_table.specs.Inside.Items.{item}
use Rattle.nxt_table.specs.Inside.LeafPasses.{leaf_by, leaf_list, leaves_from, width_of, leaf_end, passes_end, first_leaf, first_pair, lacking_from}
use Rattle.nxt_table.specs.Inside.Checks.{fault_or, pair_fault_or, leaf_fault, leaves_of}
use Rattle.nxt_table.proofs.Laws.Passes.{nothing}

-- ---- passes that found nothing

pub no_pair : (o : Option (ℕ × ℕ)) (later : Option TableFault) → pair_fault_or o later ≡ None → (o ≡ None) × (later ≡ None)
no_pair None later e = (refl, e)
no_pair (Some w) later e = cc

pub record NoLeafFault (p : Parts) : Type 0 where
  pub placed : first_leaf (passes_end p.header.static_size) (leaves_of p) ≡ None
  pub apart : first_pair (leaves_of p) ≡ None
  pub enough : lacking_from p.header.default_size 0 (leaves_of p) ≡ None

pub no_leaf_fault : (p : Parts) → leaf_fault p ≡ None → NoLeafFault p
no_leaf_fault p e =
    let a = nothing faults.Place (first_leaf (passes_end p.header.static_size) (leaves_of p)) (pair_fault_or (first_pair (leaves_of p)) (fault_or faults.DefaultsShort (lacking_from p.header.default_size 0 (leaves_of p)) None)) e in
    let b = no_pair (first_pair (leaves_of p)) (fault_or faults.DefaultsShort (lacking_from p.header.default_size 0 (leaves_of p)) None) a.1 in
    let c = nothing faults.DefaultsShort (lacking_from p.header.default_size 0 (leaves_of p)) None b.1 in
    record { placed = a.0; apart = b.0; enough = c.0 }

-- ---- leaves with defaults

-- a leaf with a default is outside
abbrev IsOutside : PlacedLeaf → Type 0
IsOutside l = l.has_default ≡ true → is_none l.array ≡ true

outside_list : (i : ℕ) (p : NestedEntry) (o : Option Item) → All IsOutside (leaf_list i p o)
outside_list i p None = All-nil IsOutside
outside_list i p (Some items.Void) = All-nil IsOutside
outside_list i p (Some (items.Number k)) = All-cons IsOutside (leaf_by i p (items.Number k)) [] (λ h. (and_parts (is_none p.array) (p.entry.flags % 2 == 0) h).0) (All-nil IsOutside)
outside_list i p (Some items.Array) = All-cons IsOutside (leaf_by i p items.Array) [] (λ h. (and_parts (is_none p.array) (p.entry.flags % 2 == 0) h).0) (All-nil IsOutside)
outside_list i p (Some (items.Cluster m)) = All-nil IsOutside
outside_list i p (Some items.Mutex) = All-cons IsOutside (leaf_by i p items.Mutex) [] (λ h. (and_parts (is_none p.array) (p.entry.flags % 2 == 0) h).0) (All-nil IsOutside)

outside_leaves : (i : ℕ) (ps : List NestedEntry) → All IsOutside (leaves_from i ps)
outside_leaves i [] = All-nil IsOutside
outside_leaves i (p ∷ ps) = All-append IsOutside (leaf_list i p (item (outline p.entry))) (leaves_from (i + 1) ps) (outside_list i p (item (outline p.entry))) (outside_leaves (i + 1) ps)

none_pass : (test : PlacedLeaf → Bool) (ls : List PlacedLeaf) → first_leaf test ls ≡ None → All (λ l. test l ≡ false) ls
none_pass test [] e = All-nil (λ l. test l ≡ false)
none_pass test (l ∷ ls) e = by (test l) refl (none_pass test ls)
  where
    by : (b : Bool) → test l ≡ b → (first_leaf test ls ≡ None → All (λ l. test l ≡ false) ls) → All (λ l. test l ≡ false) (l ∷ ls)
    by true f ih = let s : Some l.entry ≡ None = sym (ap (λ b. option_map (λ (m : PlacedLeaf). m.entry) (cond b (Some l) (find test ls))) f) ∙ e in cc
    by false f ih = All-cons (λ l. test l ≡ false) l ls f (ih (sym (ap (λ b. option_map (λ (m : PlacedLeaf). m.entry) (cond b (Some l) (find test ls))) f) ∙ e))

-- a leaf with a default ends in the static bytes
abbrev pub IsPlaced : ℕ → PlacedLeaf → Type 0
IsPlaced n l = l.has_default ≡ true → l.place + width_of l ≤ n

one_placed : (n : ℕ) (l : PlacedLeaf) → IsOutside l → passes_end n l ≡ false → IsPlaced n l
one_placed n l o e h =
    let t : nat_lt n (leaf_end l) ≡ false = sym (ap (λ b. nat_lt (if b then n else 32768) (leaf_end l)) (o h)) ∙ e in
    let le : leaf_end l ≤ n = grind (arith, nat_tests, t) in le

pub all_placed : (n : ℕ) (ps : List NestedEntry) → first_leaf (passes_end n) (leaves_from 0 ps) ≡ None → All (IsPlaced n) (leaves_from 0 ps)
all_placed n ps e k d lt = one_placed n (get_or (leaves_from 0 ps) k d) (outside_leaves 0 ps k d lt) (none_pass (passes_end n) (leaves_from 0 ps) e k d lt)

-- where the defaults are enough, more are
pub lacking_more : (a b at : ℕ) (ls : List PlacedLeaf) → a ≤ b → lacking_from a at ls ≡ None → lacking_from b at ls ≡ None
lacking_more a b at [] h e = refl
lacking_more a b at (l ∷ ls) h e = by l.has_default refl (nat_lt a (at + width_of l)) refl (lacking_more a b (at + width_of l) ls h) (lacking_more a b at ls h)
  where
    by : (d : Bool) → l.has_default ≡ d → (c : Bool) → nat_lt a (at + width_of l) ≡ c →
        (lacking_from a (at + width_of l) ls ≡ None → lacking_from b (at + width_of l) ls ≡ None) → (lacking_from a at ls ≡ None → lacking_from b at ls ≡ None) →
        lacking_from b at (l ∷ ls) ≡ None
    by true d true c ih jh =
        let s : Some l.entry ≡ None =
        sym (ap (λ q. if q then if nat_lt a (at + width_of l) then Some l.entry else lacking_from a (at + width_of l) ls else lacking_from a at ls) d
        ∙ ap (λ q. if q then Some l.entry else lacking_from a (at + width_of l) ls) c) ∙ e in cc
    by true d false c ih jh =
        let f : lacking_from a (at + width_of l) ls ≡ None =
        sym (ap (λ q. if q then if nat_lt a (at + width_of l) then Some l.entry else lacking_from a (at + width_of l) ls else lacking_from a at ls) d
        ∙ ap (λ q. if q then Some l.entry else lacking_from a (at + width_of l) ls) c) ∙ e in
        let t : nat_lt b (at + width_of l) ≡ false = grind (arith, nat_tests, c) in
        ap (λ q. if q then if nat_lt b (at + width_of l) then Some l.entry else lacking_from b (at + width_of l) ls else lacking_from b at ls) d
        ∙ ap (λ q. if q then Some l.entry else lacking_from b (at + width_of l) ls) t ∙ ih f
    by false d c f ih jh =
        let g : lacking_from a at ls ≡ None =
        sym (ap (λ q. if q then if nat_lt a (at + width_of l) then Some l.entry else lacking_from a (at + width_of l) ls else lacking_from a at ls) d) ∙ e in
        ap (λ q. if q then if nat_lt b (at + width_of l) then Some l.entry else lacking_from b (at + width_of l) ls else lacking_from b at ls) d ∙ jh g
