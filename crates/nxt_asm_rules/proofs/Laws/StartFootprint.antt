-- The footprint at the start, counted.
use Rattle.std.proofs.Common.{◌≡◌, ℕ, suc, ◌+◌, ◌*◌, ℤ, All, List, [], ◌∷◌, ◌++◌, map, length, sum_by, refl, sym, ap, ap₂, ◌∙◌, mul-suc, arith}
use Rattle.std.specs.List.{AllZip}
use Rattle.std.proofs.lemmas.List.Elements.{All-head, All-tail}
use Rattle.std.proofs.lemmas.List.Sums.{sum_by-append, sum_by-cons}
use Rattle.nxt_types.specs.Pool.{round4, row_size}
use Rattle.nxt_types.specs.Shapes.{Shape, Number, Cluster, members}
use Rattle.nxt_types.specs.declared.kind.Kind.TheVariants.{Slong}
use Rattle.nxt_model.specs.Values.{Value, Num, group_of, lists_among, lists_in, values, zero_of}
use Rattle.nxt_model.specs.Footprint.{list_bytes, member_bytes}
use Rattle.nxt_model.specs.Assembled.{all_shapes, all_values, arrays_in}
use Rattle.nxt_model.specs.TextProgram.{Text, Variable, constants, declared, first_values, returns, shapes, starts_as, static_size, struct_shapes, text_bytes, text_of, text_shape, text_value, texts}
use Rattle.nxt_model.specs.declared.nbc.NbcProgram.{NbcProgram}
use Rattle.nxt_model.specs.declared.nbc.NbcVar.{NbcVar}
use Rattle.nxt_model.proofs.Laws.Values.{items-values}
use Rattle.nxt_asm_parts.specs.Defaults.{StartFits, variable_of}
use Rattle.nxt_asm_rules.specs.AsmRules.{start_footprint}
use Rattle.nxt_asm_rules.specs.StartBytes.{counted_footprint, start_bytes}
use Rattle.nxt_asm_rules.proofs.Laws.StartValues.{IsStart, IsStarted, number_start, start_of, text_start, zero_bytes, zero_start}

-- ---- values by shapes

-- each value is one of the shape at its place
abbrev pub AreStarts : List Shape → List Value → Type 0
AreStarts ss vs = AllZip IsStart ss vs

pub starts_append : (ss ts : List Shape) (vs ws : List Value) → AreStarts ss vs → AreStarts ts ws → AreStarts (ss ++ ts) (vs ++ ws)
starts_append [] ts [] ws first second = second
starts_append [] ts (v ∷ vs) ws first second = absurd first
starts_append (s ∷ ss) ts [] ws first second = absurd first
starts_append (s ∷ ss) ts (v ∷ vs) ws first second = (first.0, starts_append ss ts vs ws first.1 second)

zeros_start : (ss : List Shape) → AreStarts ss (map zero_of ss)
zeros_start [] = tt
zeros_start (s ∷ ss) = (zero_start s, zeros_start ss)

pub numbers_start : (zs : List ℤ) → AreStarts (map (λ z. Number Slong) zs) (map Num zs)
numbers_start [] = tt
numbers_start (z ∷ zs) = (number_start Slong z, numbers_start zs)

texts_start : (ts : List (List ℕ)) → AreStarts (map (λ t. text_shape) ts) (map text_value ts)
texts_start [] = tt
texts_start (t ∷ ts) = (text_start t, texts_start ts)

-- ---- declared variables

abbrev FitsStart : NbcVar → Type 0
FitsStart v = StartFits v.shape v.start

abbrev variables : NbcProgram → List NbcVar → List Variable
variables p vs = map (variable_of p.structs) vs

abbrev var_shapes : NbcProgram → List NbcVar → List Shape
var_shapes p vs = map (λ v. v.shape) (variables p vs)

abbrev var_values : NbcProgram → List NbcVar → List Value
var_values p vs = map (λ v. starts_as v.shape v.start) (variables p vs)

started : (p : NbcProgram) (v : NbcVar) → FitsStart v → IsStarted (variable_of p.structs v).shape v.start
started p v fits = start_of (struct_shapes p.structs) v.shape v.start fits

vars_start : (p : NbcProgram) (vs : List NbcVar) → All FitsStart vs → AreStarts (var_shapes p vs) (var_values p vs)
vars_start p [] all = tt
vars_start p (v ∷ vs) all = ((started p v (All-head FitsStart v vs all)).value, vars_start p vs (All-tail FitsStart v vs all))

-- the variables start with values of their shapes
pub shapes_start : (p : NbcProgram) → All FitsStart p.vars → AreStarts (shapes (text_of p)) (first_values (text_of p))
shapes_start p all =
    starts_append (declared (text_of p)) (returns (text_of p)) (var_values p p.vars) (map zero_of (returns (text_of p)))
    (vars_start p p.vars all) (zeros_start (returns (text_of p)))

-- and the constants have values of theirs
pub all_start : (p : NbcProgram) → All FitsStart p.vars → AreStarts (all_shapes (text_of p)) (all_values (text_of p) (first_values (text_of p)))
all_start p all =
    let t : Text = text_of p in
    let numbers : List Shape = map (λ z. Number Slong) (constants t) in
    starts_append (shapes t ++ numbers) (map (λ b. text_shape) (texts t)) (first_values t ++ map Num (constants t)) (map text_value (texts t))
    (starts_append (shapes t) numbers (first_values t) (map Num (constants t)) (shapes_start p all) (numbers_start (constants t)))
    (texts_start (texts t))

-- ---- lists

pub lists_counted : (ss : List Shape) (vs : List Value) → AreStarts ss vs → lists_among (values vs) ≡ sum_by arrays_in ss
lists_counted [] [] all = refl
lists_counted [] (v ∷ vs) all = absurd all
lists_counted (s ∷ ss) [] all = absurd all
lists_counted (s ∷ ss) (v ∷ vs) all = ap₂ ◌+◌ all.0.lists (lists_counted ss vs all.1) ∙ sym (sum_by-cons arrays_in s ss)

-- a sum over one shape, so many times
sum_same : {X : Type 0} (f : Shape → ℕ) (s : Shape) (xs : List X) → sum_by f (map (λ x. s) xs) ≡ f s * length xs
sum_same f s [] = by (f s)
  where
    by : (n : ℕ) → 0 ≡ n * 0
    by n = omega arith
sum_same f s (x ∷ xs) = by (f s) (length xs) (sum_by f (map (λ y. s) xs)) (sum_by f (s ∷ map (λ y. s) xs)) (sum_by-cons f s (map (λ y. s) xs)) (sum_same f s xs)
  where
    by : (n m a b : ℕ) → b ≡ n + a → a ≡ n * m → b ≡ n * suc m
    by n m a b e h = omega (arith, e, h, mul-suc n m)

-- a sum over all shapes, by the variables and the constants
pub sum_all : (f : Shape → ℕ) (t : Text) → sum_by f (all_shapes t) ≡ sum_by f (shapes t) + f (Number Slong) * length (constants t) + f text_shape * length (texts t)
sum_all f t =
    let numbers : List Shape = map (λ z. Number Slong) (constants t) in
    let last : List Shape = map (λ b. text_shape) (texts t) in
    sum_by-append f (shapes t ++ numbers) last
    ∙ ap₂ ◌+◌ (sum_by-append f (shapes t) numbers ∙ ap (λ n. sum_by f (shapes t) + n) (sum_same f (Number Slong) (constants t))) (sum_same f text_shape (texts t))

-- the rows of the table at the start
pub rows_counted : (p : NbcProgram) → All FitsStart p.vars
    → lists_in (group_of (first_values (text_of p))) + length (texts (text_of p)) + 1 ≡ sum_by arrays_in (all_shapes (text_of p)) + 1
rows_counted p all =
    let t : Text = text_of p in
    by (lists_in (group_of (first_values t))) (sum_by arrays_in (shapes t)) (length (constants t)) (length (texts t)) (sum_by arrays_in (all_shapes t))
    (lists_counted (shapes t) (first_values t) (shapes_start p all)) (sum_all arrays_in t)
  where
    by : (a b c d e : ℕ) → a ≡ b → e ≡ b + 0 * c + 1 * d → a + d + 1 ≡ e + 1
    by a b c d e f g = omega (arith, f, g)

-- ---- bytes

zeros_sized : (ss : List Shape) → member_bytes (members ss) (map zero_of ss) ≡ 0
zeros_sized [] = refl
zeros_sized (s ∷ ss) = omega (arith, zero_bytes s, zeros_sized ss)

bytes_counted : (p : NbcProgram) (vs : List NbcVar) (ss : List Shape) (ws : List Value) → All FitsStart vs
    → member_bytes (members (var_shapes p vs ++ ss)) (var_values p vs ++ ws) ≡ sum_by start_bytes (variables p vs) + member_bytes (members ss) ws
bytes_counted p [] ss ws all = by (member_bytes (members ss) ws)
  where
    by : (n : ℕ) → n ≡ 0 + n
    by n = omega arith
bytes_counted p (v ∷ vs) ss ws all =
    let x : Variable = variable_of p.structs v in
    let rest : ℕ = member_bytes (members (var_shapes p vs ++ ss)) (var_values p vs ++ ws) in
    by (list_bytes x.shape (starts_as x.shape x.start)) rest (start_bytes x) (sum_by start_bytes (variables p vs)) (member_bytes (members ss) ws)
    (sum_by start_bytes (x ∷ variables p vs)) (started p v (All-head FitsStart v vs all)).bytes (bytes_counted p vs ss ws (All-tail FitsStart v vs all))
    (sum_by-cons start_bytes x (variables p vs))
  where
    by : (a b c d e f : ℕ) → a ≡ c → b ≡ d + e → f ≡ c + d → a + b ≡ f + e
    by a b c d e f g h i = omega (arith, g, h, i)

first_bytes : (p : NbcProgram) → All FitsStart p.vars
    → list_bytes (Cluster (members (shapes (text_of p)))) (group_of (first_values (text_of p))) ≡ sum_by start_bytes (text_of p).vars
first_bytes p all =
    let t : Text = text_of p in
    ap (member_bytes (members (shapes t))) (items-values (first_values t))
    ∙ bytes_counted p p.vars (returns t) (map zero_of (returns t)) all
    ∙ by (sum_by start_bytes t.vars) (member_bytes (members (returns t)) (map zero_of (returns t))) (zeros_sized (returns t))
  where
    by : (a b : ℕ) → b ≡ 0 → a + b ≡ a
    by a b e = omega (arith, e)

-- ---- the footprint

-- the footprint at the start is what is counted
pub footprint_counted : (p : NbcProgram) → All (λ v. StartFits v.shape v.start) p.vars → start_footprint (text_of p) ≡ counted_footprint (text_of p)
footprint_counted p all =
    let t : Text = text_of p in
    ap₂ (λ rows bytes. round4 (static_size t) + round4 (row_size * rows) + bytes + text_bytes t) (rows_counted p all) (first_bytes p all)
    ∙ by (round4 (static_size t)) (round4 (row_size * (sum_by arrays_in (all_shapes t) + 1))) (sum_by start_bytes t.vars) (text_bytes t)
  where
    by : (a b c d : ℕ) → a + b + c + d ≡ a + b + (c + d)
    by a b c d = omega arith
