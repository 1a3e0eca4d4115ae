-- What several values give for a list.
use Rattle.std.proofs.Common.{◌≡◌, ℕ, ◌+◌, ◌*◌, ◌<◌, ◌≤◌, ◌^◌, true, List, [], ◌∷◌, ◌++◌, map, take, length, get_or, flat_map, IsSome, sym, ap, ap₂, ◌∙◌, subst, arith, append-nil, length-append, length-take}
use Rattle.std.specs.Prelude.{ℤ, All, pos}
use Rattle.std.proofs.lemmas.List.{take_more, take_all, map-append}
use Rattle.std.proofs.lemmas.List.Concat.{flat_map-append}
use Rattle.std.proofs.lemmas.List.Elements.{All-nil, All-head, All-tail, All-append, All-take, All-get_or}
use Rattle.std.proofs.lemmas.List.Sums.{sum_by-append}
use Rattle.nxt_types.specs.OperandRules.{is_list, element_of, goes_into}
use Rattle.nxt_types.specs.Shapes.{Shape}
use Rattle.nxt_model.specs.Footprint.{list_bytes}
use Rattle.nxt_types.specs.Pool.{pool_size}
use Rattle.nxt_model.specs.Means.Arrays.{pieces}
use Rattle.nxt_model.specs.Values.{Value, flat, list_of, stored, lists_in}
use Rattle.nxt_values.specs.Sizes.{IsCountable}
use Rattle.nxt_space.specs.Variables.{Variables, AreSound, name_of, shape_of, value_of}
use Rattle.nxt_values.specs.declared.sizing.Size.{Size}
use Rattle.nxt_values.proofs.Laws.Sizes.{CanAdd, both}
use Rattle.nxt_operands.specs.Operands.{given}
use Rattle.nxt_operands.proofs.Laws.Sizes.{sound_part}
use Rattle.nxt_lists.specs.Pieces.{pieces_of, many_filled, size_of_each}
use Rattle.nxt_lists.proofs.ListElements.{IsElement, pieces_elements, pieces_few}
use Rattle.nxt_lists.proofs.ListStored.{AreFor, AreSmall, elements_filled, flat_list, each_small}
use Rattle.nxt_lists.proofs.Conversions.{element_strides}

-- ---- all that the sources give

-- the sources go into the list
pub record AreSources (s : Variables) (list : ℕ) (sources : List ℕ) : Type 0 where
  pub sound : AreSound s
  pub of_list : is_list (shape_of s list) ≡ true
  pub named : All (λ i. IsSome (name_of s i)) sources
  pub fit : All (λ i. goes_into (shape_of s list) (shape_of s i) ≡ true) sources

pub sources_front : (s : Variables) (list : ℕ) (sources : List ℕ) (k : ℕ) → AreSources s list sources → AreSources s list (take k sources)
sources_front s list sources k e =
    record {
      sound = e.sound;
      of_list = e.of_list;
      named = All-take (λ i. IsSome (name_of s i)) k sources e.named;
      fit = All-take (λ i. goes_into (shape_of s list) (shape_of s i) ≡ true) k sources e.fit;
    }

sources_rest : (s : Variables) (list i : ℕ) (sources : List ℕ) → AreSources s list (i ∷ sources) → AreSources s list sources
sources_rest s list i sources e =
    record {
      sound = e.sound;
      of_list = e.of_list;
      named = All-tail (λ j. IsSome (name_of s j)) i sources e.named;
      fit = All-tail (λ j. goes_into (shape_of s list) (shape_of s j) ≡ true) i sources e.fit;
    }

-- one of them
pub record IsSource (s : Variables) (list i : ℕ) : Type 0 where
  pub elements : All (IsElement (element_of (shape_of s list))) (pieces (shape_of s list) (given s i))
  pub few : length (pieces (shape_of s list) (given s i)) ≤ pool_size

pub is_source : (s : Variables) (list i : ℕ) → AreSound s → is_list (shape_of s list) ≡ true → IsSome (name_of s i) → goes_into (shape_of s list) (shape_of s i) ≡ true → IsSource s list i
is_source s list i sound of_list some fits =
    let part = sound_part s i sound some in
    record {
      elements = pieces_elements (shape_of s list) (shape_of s i) (value_of s i) of_list fits part;
      few = pieces_few (shape_of s list) (shape_of s i) (value_of s i) of_list fits part;
    }

pub source_at : (s : Variables) (list : ℕ) (sources : List ℕ) (k d : ℕ) → k < length sources → AreSources s list sources → IsSource s list (get_or sources k d)
source_at s list sources k d less e =
    is_source s list (get_or sources k d) e.sound e.of_list
    (All-get_or (λ j. IsSome (name_of s j)) sources k d less e.named)
    (All-get_or (λ j. goes_into (shape_of s list) (shape_of s j) ≡ true) sources k d less e.fit)

first_source : (s : Variables) (list i : ℕ) (sources : List ℕ) → AreSources s list (i ∷ sources) → IsSource s list i
first_source s list i sources e =
    is_source s list i e.sound e.of_list
    (All-head (λ j. IsSome (name_of s j)) i sources e.named)
    (All-head (λ j. goes_into (shape_of s list) (shape_of s j) ≡ true) i sources e.fit)

pub all_elements : (s : Variables) (list : ℕ) (sources : List ℕ) → AreSources s list sources → All (IsElement (element_of (shape_of s list))) (pieces_of s list sources)
all_elements s list [] e = All-nil (IsElement (element_of (shape_of s list)))
all_elements s list (i ∷ sources) e =
    All-append
    (IsElement (element_of (shape_of s list)))
    (pieces (shape_of s list) (given s i))
    (pieces_of s list sources)
    (first_source s list i sources e).elements
    (all_elements s list sources (sources_rest s list i sources e))

pub all_few : (s : Variables) (list : ℕ) (sources : List ℕ) → AreSources s list sources → length (pieces_of s list sources) ≤ length sources * pool_size
all_few s list [] e = omega arith
all_few s list (i ∷ sources) e =
    let more = all_few s list sources (sources_rest s list i sources e) in
    omega (arith, (first_source s list i sources e).few, more, length-append (pieces (shape_of s list) (given s i)) (pieces_of s list sources))

-- those of one source more
pub one_source_more : (s : Variables) (list : ℕ) (sources : List ℕ) (k d : ℕ) → k < length sources → pieces_of s list (take (k + 1) sources) ≡ pieces_of s list (take k sources) ++ pieces (shape_of s list) (given s (get_or sources k d))
one_source_more s list sources k d less =
    let f = pieces (shape_of s list) in
    let i = get_or sources k d in
    ap (pieces_of s list) (take_more sources k d less)
    ∙ ap (flat_map f) (map-append (given s) (take k sources) (i ∷ []))
    ∙ flat_map-append f (map (given s) (take k sources)) (given s i ∷ [])
    ∙ ap (λ vs. pieces_of s list (take k sources) ++ vs) (append-nil (f (given s i)))

-- ---- one of them as numbers

-- the greatest `u32` is more than any value gives, so that all of it is taken
pub whole_source : (s : Variables) (list i count : ℕ) (begun zs : List ℤ) → IsSource s list i → let vs = pieces (shape_of s list) (given s i) in count ≡ length (take 4294967295 vs) → zs ≡ begun ++ flat_map flat (take 4294967295 vs) → (count ≡ length vs) × (zs ≡ begun ++ flat_map flat vs)
whole_source s list i count begun zs e counted is =
    let vs = pieces (shape_of s list) (given s i) in
    let all : take 4294967295 vs ≡ vs = take_all 4294967295 vs (omega (arith, e.few)) in
    (counted ∙ ap length all, is ∙ ap (λ us. begun ++ flat_map flat us) all)

source_filled : (s : Variables) (list i count : ℕ) (zs : List ℤ) → IsSource s list i → let t = element_of (shape_of s list) in let vs = pieces (shape_of s list) (given s i) in count ≡ length vs → zs ≡ flat_map flat vs → many_filled t count zs ≡ map (stored t) vs
source_filled s list i count zs e counted is =
    let t = element_of (shape_of s list) in
    let vs = pieces (shape_of s list) (given s i) in
    ap (λ n. many_filled t n zs) counted ∙ elements_filled t vs zs e.elements is

-- one source more in the flat form of the list
pub joined_more : (s : Variables) (list : ℕ) (sources : List ℕ) (k d count more : ℕ) (had now : List ℤ) → AreSources s list sources → k < length sources → had ≡ pos count ∷ flat_map flat (pieces_of s list (take k sources)) → let vs = pieces (shape_of s list) (given s (get_or sources k d)) in more ≡ length (take 4294967295 vs) → now ≡ had ++ flat_map flat (take 4294967295 vs) → now ≡ pos count ∷ flat_map flat (pieces_of s list (take (k + 1) sources))
joined_more s list sources k d count more had now e less so_far counted is =
    let i = get_or sources k d in
    let vs = pieces (shape_of s list) (given s i) in
    let us = pieces_of s list (take k sources) in
    let one = whole_source s list i more had now (source_at s list sources k d less e) counted is in
    one.1
    ∙ ap (λ zs. zs ++ flat_map flat vs) so_far
    ∙ ap (λ zs. pos count ∷ zs) (sym (flat_map-append flat us vs))
    ∙ ap (λ ws. pos count ∷ flat_map flat ws) (sym (one_source_more s list sources k d less))

pub joined_done : (s : Variables) (list : ℕ) (sources : List ℕ) (k count : ℕ) (zs : List ℤ) → length sources ≤ k → count ≡ length (pieces_of s list sources) → zs ≡ pos count ∷ flat_map flat (pieces_of s list (take k sources)) → zs ≡ flat (list_of (pieces_of s list sources))
joined_done s list sources k count zs done counted is =
    is
    ∙ ap₂ (λ n is. pos n ∷ flat_map flat (pieces_of s list is)) counted (take_all k sources done)
    ∙ sym (flat_list (pieces_of s list sources))

-- ---- sizes

pub sizes_both : (t : Shape) (us vs : List Value) → size_of_each t (map (stored t) (us ++ vs)) ≡ both (size_of_each t (map (stored t) us)) (size_of_each t (map (stored t) vs))
sizes_both t us vs =
    let xs = map (stored t) us in
    let ys = map (stored t) vs in
    ap (size_of_each t) (map-append (stored t) us vs)
    ∙ ap₂ (λ l b. let z : Size = record { lists = l; bytes = b } in z) (sum_by-append lists_in xs ys) (sum_by-append (list_bytes t) xs ys)

-- with one source more
pub record IsMeasured (s : Variables) (list : ℕ) (sources : List ℕ) (k count more : ℕ) (size one : Size) : Type 0 where
  pub countable : IsCountable one
  pub adds : CanAdd size one
  pub fits : count + more < 2 ^ 64
  pub counted : count + more ≡ length (pieces_of s list (take (k + 1) sources))
  pub sized : both size one ≡ size_of_each (element_of (shape_of s list)) (map (stored (element_of (shape_of s list))) (pieces_of s list (take (k + 1) sources)))

measured_by : (s : Variables) (list : ℕ) (sources : List ℕ) (k d count more : ℕ) (size one : Size) → AreSources s list sources → IsSome (name_of s list) → k < length sources → length sources < 2 ^ 16 → let t = element_of (shape_of s list) in let us = pieces_of s list (take k sources) in let vs = pieces (shape_of s list) (given s (get_or sources k d)) in count ≡ length us → size ≡ size_of_each t (map (stored t) us) → more ≡ length vs → one ≡ size_of_each t (map (stored t) vs) → IsMeasured s list sources k count more size one
measured_by s list sources k d count more size one e some less few counted sized found is =
    let t = element_of (shape_of s list) in
    let us = pieces_of s list (take k sources) in
    let vs = pieces (shape_of s list) (given s (get_or sources k d)) in
    let strides = element_strides (shape_of s list) e.of_list (sound_part s list e.sound some).strides in
    let front = sources_front s list sources k e in
    let here = source_at s list sources k d less e in
    let so_far = all_few s list (take k sources) front in
    let fewer = length-take k sources in
    let had = subst (λ z. AreSmall z (length us)) (sym sized) (each_small t us strides (all_elements s list (take k sources) front)) in
    let next = subst (λ z. AreSmall z (length vs)) (sym is) (each_small t vs strides here.elements) in
    record {
      countable = record { lists = omega (arith, next.lists, here.few); bytes = omega (arith, next.bytes, here.few) };
      adds = record {
        lists = omega (arith, had.lists, next.lists, here.few, so_far, fewer, few);
        bytes = omega (arith, had.bytes, next.bytes, here.few, so_far, fewer, few);
      };
      fits = omega (arith, counted, found, here.few, so_far, fewer, few);
      counted = ap₂ (λ m n. m + n) counted found ∙ sym (length-append us vs) ∙ ap length (sym (one_source_more s list sources k d less));
      sized = ap₂ both sized is ∙ sym (sizes_both t us vs) ∙ ap (λ ws. size_of_each t (map (stored t) ws)) (sym (one_source_more s list sources k d less));
    }

pub measured_more : (s : Variables) (list : ℕ) (sources : List ℕ) (k d : ℕ) (t : Shape) (count more : ℕ) (size : Size) (begun zs : List ℤ) → AreSources s list sources → IsSome (name_of s list) → let u = element_of (shape_of s list) in t ≡ u → k < length sources → length sources < 2 ^ 16 → let us = pieces_of s list (take k sources) in let vs = pieces (shape_of s list) (given s (get_or sources k d)) in count ≡ length us → size ≡ size_of_each u (map (stored u) us) → begun ≡ [] → more ≡ length (take 4294967295 vs) → zs ≡ begun ++ flat_map flat (take 4294967295 vs) → IsMeasured s list sources k count more size (size_of_each t (many_filled t more zs))
measured_more s list sources k d t count more size begun zs e some same less few counted sized none found is =
    let u = element_of (shape_of s list) in
    let i = get_or sources k d in
    let vs = pieces (shape_of s list) (given s i) in
    let here = source_at s list sources k d less e in
    let whole = whole_source s list i more begun zs here found is in
    let filled = source_filled s list i more zs here whole.0 (whole.1 ∙ ap (λ ys. ys ++ flat_map flat vs) none) in
    measured_by s list sources k d count more size (size_of_each t (many_filled t more zs)) e some less few counted sized whole.0
    (ap (λ (w : Shape). size_of_each w (many_filled w more zs)) same ∙ ap (size_of_each u) filled)

-- ---- which list they are

pub pieces_for : (s : Variables) (list : ℕ) (sources : List ℕ) → AreSources s list sources → length sources < 2 ^ 16 → AreFor s list (pieces_of s list sources)
pieces_for s list sources e few =
    record { list = e.of_list; elements = all_elements s list sources e; few = omega (arith, all_few s list sources e, few) }
