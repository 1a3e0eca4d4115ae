-- The least line of a space that declares a name again.
use Rattle.std.proofs.Common.{◌≡◌, ℕ, Bool, true, false, ◌==◌, ◌&&◌, ◌||◌, List, [], ◌∷◌, ◌++◌, bytes_eq, Option, refl, sym, ap, ◌∙◌, subst, inl, inr, arith, eq-eqb, ne_eqb}
use Rattle.std.specs.List.{list_any}
use Rattle.std.proofs.lemmas.Bool.{cases_eq, and_from, and_left, and_right, both_ways, cases_Bool, false_from_ne_true}
use Rattle.std.proofs.lemmas.List.Folds.{list_any-append}
use Rattle.std.proofs.lemmas.Slice.Eq.{bytes_eq-Decides}
use Rattle.nxt_model.specs.Nbc.NbcRules.{Declared, is_repeated}
use Rattle.nxt_nbc_lines.specs.Firsts.{IsLeast, lesser}
use Rattle.nxt_nbc_lines.proofs.Laws.FirstLines.{least_like, least_lesser}
use Rattle.nxt_nbc.specs.Spaces.{is_among, least_again, least_in_spaces}
use Rattle.nxt_nbc.proofs.LesserLines.{line_if, again_is}

-- ---- names

-- two names are the same either way around
pub same_name : (a b : List ℕ) → bytes_eq a b ≡ bytes_eq b a
same_name a b =
    elim (cases_Bool (bytes_eq b a)) as (λ _. bytes_eq a b ≡ bytes_eq b a) [
      | inl e ↦ (bytes_eq-Decides a b).1 (sym ((bytes_eq-Decides b a).0 e)) ∙ sym e
      | inr e ↦ false_from_ne_true (bytes_eq a b) (λ h. both_ways (bytes_eq b a) e ((bytes_eq-Decides b a).1 (sym ((bytes_eq-Decides a b).0 h)))) ∙ sym e
    ]

-- a name stands behind names, or among those before it
pub among_more : (before : List (List ℕ)) (name other : List ℕ) → is_among (before ++ name ∷ []) other ≡ (is_among before other || (bytes_eq other name || false))
among_more before name other =
    list_any-append (λ n. bytes_eq n other) before (name ∷ []) ∙ ap (λ c. is_among before other || (c || false)) (same_name name other)

-- ---- tests

-- a line declares a name that stands behind those before it, or one that is taken
abbrev pub declares : (ℕ → List ℕ → Bool) → List (List ℕ) → List Declared → ℕ → Bool
declares taken before ds line = list_any (λ d. (d.0 == line) && (is_among before d.1 || taken line d.1)) ds

-- or one that stands twice
abbrev pub declares_again : (ℕ → List ℕ → Bool) → List (List ℕ) → List Declared → ℕ → Bool
declares_again taken before ds line = is_repeated line ds || declares taken before ds line

-- a line declares a name
abbrev names_it : List ℕ → List Declared → ℕ → Bool
names_it name ds line = list_any (λ d. (d.0 == line) && bytes_eq d.1 name) ds

join_tests : (q b m t a s : Bool) → ((q && ((m || (b || false)) || t)) || (a || s)) ≡ (((q && b) || a) || ((q && (m || t)) || s))
join_tests false b m t a s = refl
join_tests true true true t a s = refl
join_tests true true false t a s = refl
join_tests true false true t true s = refl
join_tests true false true t false s = refl
join_tests true false false true true s = refl
join_tests true false false true false s = refl
join_tests true false false false a s = refl

-- one more name before them
declares_more : (taken : ℕ → List ℕ → Bool) (before : List (List ℕ)) (name : List ℕ) (ds : List Declared) (line : ℕ)
    → declares taken (before ++ name ∷ []) ds line ≡ (names_it name ds line || declares taken before ds line)
declares_more taken before name [] line = refl
declares_more taken before name (d ∷ ds) line =
    let q : Bool = d.0 == line in
    let t : Bool = taken line d.1 in
    ap (λ c. (q && (c || t)) || declares taken (before ++ name ∷ []) ds line) (among_more before name d.1)
    ∙ ap (λ c. (q && ((is_among before d.1 || (bytes_eq d.1 name || false)) || t)) || c) (declares_more taken before name ds line)
    ∙ join_tests q (bytes_eq d.1 name) (is_among before d.1) t (names_it name ds line) (declares taken before ds line)

first_in_front : (a r h s : Bool) → ((a || r) || (h || s)) ≡ (h || (r || (a || s)))
first_in_front true true true s = refl
first_in_front true true false s = refl
first_in_front true false true s = refl
first_in_front true false false s = refl
first_in_front false true true s = refl
first_in_front false true false s = refl
first_in_front false false true s = refl
first_in_front false false false s = refl

-- a name is declared again by its own line, or by one behind it
again_behind : (taken : ℕ → List ℕ → Bool) (before : List (List ℕ)) (d : Declared) (ds : List Declared) (line : ℕ)
    → declares_again taken before (d ∷ ds) line
    ≡ (((d.0 == line) && (is_among before d.1 || taken line d.1)) || declares_again taken (before ++ d.1 ∷ []) ds line)
again_behind taken before d ds line =
    let h : Bool = (d.0 == line) && (is_among before d.1 || taken line d.1) in
    first_in_front (names_it d.1 ds line) (is_repeated line ds) h (declares taken before ds line)
    ∙ ap (λ c. h || (is_repeated line ds || c)) (sym (declares_more taken before d.1 ds line))

-- ---- least lines

hit_by : (test : ℕ → Bool) (line : ℕ) (c : Bool) → test line ≡ c → IsLeast (λ l. (line == l) && test l) (line_if c line)
hit_by test line true e = (
  and_from (line == line) (test line) (eq-eqb line line refl) e,
  λ l lt. and_left (line == l) (test l) (ne_eqb line l (λ e. let no : ⊥ = omega (arith, e, lt) in no)),
)
hit_by test line false e = λ l.
    elim (cases_eq line l) as (λ _. ((line == l) && test l) ≡ false) [
      | inl same ↦ and_right (line == l) (test l) (ap test (sym same) ∙ e)
      | inr other ↦ and_left (line == l) (test l) (ne_eqb line l other)
    ]

-- behind names
pub least_behind : (taken : ℕ → List ℕ → Bool) (before : List (List ℕ)) (ds : List Declared)
    → IsLeast (λ line. is_repeated line ds || list_any (λ d. (d.0 == line) && (is_among before d.1 || taken line d.1)) ds) (least_again taken before ds)
least_behind taken before [] = λ l. refl
least_behind taken before ((line, name) ∷ ds) =
    let here : ℕ → Bool = λ l. is_among before name || taken l name in
    let rest : ℕ → Bool = declares_again taken (before ++ name ∷ []) ds in
    let all : ℕ → Bool = declares_again taken before ((line, name) ∷ ds) in
    let later : Option ℕ = least_again taken (before ++ name ∷ []) ds in
    subst (λ o. IsLeast all o) (sym (again_is (here line) line later))
    (least_like all (λ l. ((line == l) && here l) || rest l) (again_behind taken before (line, name) ds) (lesser (line_if (here line) line) later)
    (least_lesser (λ l. (line == l) && here l) rest (line_if (here line) line) later (hit_by here line (here line) refl) (least_behind taken (before ++ name ∷ []) ds)))

-- of one space
pub least_space : (taken : ℕ → List ℕ → Bool) (ds : List Declared)
    → IsLeast (λ line. is_repeated line ds || list_any (λ d. (d.0 == line) && taken line d.1) ds) (least_again taken [] ds)
least_space taken ds = least_behind taken [] ds

-- of several spaces
pub least_spaces : (taken : ℕ → List ℕ → Bool) (dss : List (List Declared))
    → IsLeast (λ line. list_any (λ ds. is_repeated line ds || list_any (λ d. (d.0 == line) && taken line d.1) ds) dss) (least_in_spaces taken dss)
least_spaces taken [] = λ l. refl
least_spaces taken (ds ∷ more) =
    least_lesser (declares_again taken [] ds) (λ line. list_any (λ es. declares_again taken [] es line) more)
    (least_again taken [] ds) (least_in_spaces taken more) (least_space taken ds) (least_spaces taken more)
