-- Flat forms that are put together, member by member and element by element.
use Rattle.std.proofs.Common.{◌≡◌, ℕ, ◌+◌, ◌*◌, ◌≤◌, List, [], ◌∷◌, ◌++◌, map, length, take, sym, ap, ◌∙◌, arith, append_assoc, append-nil}
use Rattle.std.specs.Prelude.{ℤ, pos}
use Rattle.std.proofs.Math.Seq.{take-append_seam}
use Rattle.std.proofs.lemmas.List.{length-map, length-take, take-take}
use Rattle.nxt_facts.proofs.Places.{places_more}
use Rattle.nxt_types.specs.Shapes.{Shape, Array, Members, member}
use Rattle.nxt_types.specs.Names.{size}
use Rattle.nxt_types.specs.declared.shape.TocEntry.{TocEntry}
use Rattle.nxt_model.specs.Values.{Value, values, list_of, flat, flats}
use Rattle.nxt_model.proofs.Laws.Values.{items-values}
use Rattle.nxt_facts.specs.Places.{places_from}
use Rattle.nxt_facts.proofs.Places.{length-places}
use Rattle.nxt_heap.specs.Lists.{Lists, bytes_at}
use Rattle.nxt_values.specs.Elements.{AreElements, element_place}
use Rattle.nxt_values.specs.Regions.{value_there, values_there}
use Rattle.nxt_values.specs.Ahead.{behind}
use Rattle.nxt_values.specs.declared.elements.Elements.{Elements}
use Rattle.nxt_values.specs.declared.reading.Place.{Place}
use Rattle.nxt_values.specs.Held.{value_at}
use Rattle.nxt_values.proofs.Laws.Elements.{elements_value}
use Rattle.nxt_values.proofs.Laws.Members.{AreThere, others_there}

-- ---- what was there

-- what begins with what begins with them begins with them
pub front_then : (xs ys zs : List ℤ) → take (length xs) ys ≡ xs → take (length ys) zs ≡ ys → take (length xs) zs ≡ xs
front_then xs ys zs first next =
    let less : length xs ≤ length ys = omega (arith, ap length first, length-take (length xs) ys) in
    sym (take-take (length xs) (length ys) zs less) ∙ ap (take (length xs)) next ∙ first

-- ---- members

-- these members are still to be added
pub record Left (table : List TocEntry) (h : Lists) (all : ℕ) (old whole into : List ℤ) (ss : Members) (p : Place) : Type 0 where
  pub there : AreThere table h all ss p
  pub front : take (length old) into ≡ old
  pub both : into ++ flats (values (values_there table h ss p)) ≡ whole

-- the first was added
pub member_added : {table : List TocEntry} {h : Lists} {all : ℕ} {old whole into more : List ℤ} {s : Shape} {ss : Members} {at : Place} → Left table h all old whole into (member s ss) at → more ≡ into ++ flat (value_there table h s at) → Left table h all old whole more ss (behind at (size s))
member_added {table} {h} {all} {old} {whole} {into} {more} {s} {ss} {at} e added =
    let one = flat (value_there table h s at) in
    let rest = flats (values (values_there table h ss (behind at (size s)))) in
    record {
      there = others_there e.there;
      front = front_then old into more e.front (ap (take (length into)) added ∙ take-append_seam into one);
      both = ap (λ zs. zs ++ rest) added ∙ append_assoc into one rest ∙ e.both;
    }

-- ---- elements

flats_more : (value : ℕ → Value) (xs : List ℕ) (x : ℕ) → flats (values (map value (xs ++ x ∷ []))) ≡ flats (values (map value xs)) ++ flat (value x)
flats_more value [] x = append-nil (flat (value x))
flats_more value (y ∷ ys) x =
    ap (λ zs. flat (value y) ++ zs) (flats_more value ys x)
    ∙ sym (append_assoc (flat (value y)) (flats (values (map value ys))) (flat (value x)))

-- the first k elements were added behind their number
abbrev pub with_elements : List TocEntry → Lists → Shape → Elements → ℕ → List ℤ
with_elements table h s e k =
    pos e.count ∷ flats (values (map (value_at table h s e.entry (bytes_at h e.row)) (places_from 0 e.stride k)))

-- and then the next one
pub element_added : (table : List TocEntry) (h : Lists) (s : Shape) (e : Elements) (k : ℕ) (place : Place) (old into more : List ℤ) → place ≡ element_place e k → into ≡ old ++ with_elements table h s e k → more ≡ into ++ flat (value_there table h s place) → more ≡ old ++ with_elements table h s e (k + 1)
element_added table h s e k place old into more at first added =
    let value = value_at table h s e.entry (bytes_at h e.row) in
    added ∙ ap (λ p. into ++ flat (value_there table h s p)) at
    ∙ ap (λ zs. zs ++ flat (value (k * e.stride))) first
    ∙ append_assoc old (with_elements table h s e k) (flat (value (k * e.stride)))
    ∙ ap
    (λ zs. old ++ pos e.count ∷ zs)
    (sym (ap (λ ps. flats (values (map value ps))) (places_more e.stride k) ∙ flats_more value (places_from 0 e.stride k) (k * e.stride)))

-- all elements with their number are the list's flat form
all_elements : (value : ℕ → Value) (count stride : ℕ) → pos count ∷ flats (values (map value (places_from 0 stride count))) ≡ flat (list_of (map value (places_from 0 stride count)))
all_elements value count stride =
    ap
    (λ n. pos n ∷ flats (values (map value (places_from 0 stride count))))
    (sym (ap length (items-values (map value (places_from 0 stride count))) ∙ length-map (places_from 0 stride count) value ∙ length-places 0 stride count))

-- with all its elements a list is added
pub list_added : {table : List TocEntry} {h : Lists} {s whole : Shape} {stride : ℕ} {list : Place} {e : Elements} (k : ℕ) (old into : List ℤ) → AreElements table h stride list e → whole ≡ Array stride s → k ≡ e.count → into ≡ old ++ with_elements table h s e k → into ≡ old ++ flat (value_there table h whole list)
list_added {table} {h} {s} {whole} {stride} {list} {e} k old into all is end added =
    added ∙ ap (λ n. old ++ with_elements table h s e n) end
    ∙ ap (λ zs. old ++ zs) (all_elements (value_at table h s e.entry (bytes_at h e.row)) e.count e.stride)
    ∙ ap (λ v. old ++ flat v) (sym (elements_value all is))
