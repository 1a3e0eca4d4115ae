-- The starting values of a text's variables and constants: numbers of their kinds, and lists of numbers.
use Rattle.std.proofs.Common.{◌≡◌, ℕ, ◌%◌, ◌^◌, ◌<◌, Bool, true, not, ℤ, pos, List, [], ◌∷◌, ◌++◌, map, flat_map, bytes_eq, refl, sym, ap, subst, arith, true≢false}
use Rattle.std.specs.Prelude.{⊤}
use Rattle.std.specs.List.{list_all}
use Rattle.std.specs.Ordering.{int_eq}
use Rattle.std.proofs.lemmas.Bool.{and_parts}
use Rattle.std.proofs.lemmas.Bool.Decides.{Decides-int_eq}
use Rattle.nxt_types.specs.Arithmetic.{cut, word}
use Rattle.nxt_types.specs.Shapes.{Shape, Void, Number, Array, Cluster, Mutex, members}
use Rattle.nxt_types.specs.declared.kind.Kind.{Kind}
use Rattle.nxt_types.specs.declared.kind.Kind.TheVariants.{Ubyte, Slong}
use Rattle.nxt_types.proofs.Laws.Kinds.{cut-extend}
use Rattle.nxt_model.specs.Assembled.{all_shapes, all_values}
use Rattle.nxt_model.specs.Means.Text.{ended}
use Rattle.nxt_model.specs.Nbc.Forms as forms
use Rattle.nxt_model.specs.Nbc.Forms.{Given}
use Rattle.nxt_model.specs.Nbc.NbcRules.{fit_elements, fits_shape, start_fits}
use Rattle.nxt_model.specs.Nbc.Types.{Struct, shape_in}
use Rattle.nxt_model.specs.Nbc.Text.{Source, Variable, program_of, program_var, start_of}
use Rattle.nxt_model.specs.TextProgram as program
use Rattle.nxt_model.specs.TextProgram.{Text, all_args, constant, constants, distinct, first_values, numbers_in, returns, shapes, starts_as, subroutines, text_shape, text_value, texts, texts_in}
use Rattle.nxt_model.specs.Values.{Value, Num, list_of, zero_of}
use Rattle.nxt_model.specs.declared.nbc.NbcArg.{NbcArg}
use Rattle.nxt_model.specs.declared.nbc.NbcArg.TheVariants as args
use Rattle.nxt_model.proofs.Laws.Values.{items-values}
use Rattle.nxt_facts.proofs.Each.{Each, each_filter, each_flat, each_from, each_join, each_then}
use Rattle.nxt_asm_laws.proofs.Laws.Starts.{Holds}
use Rattle.nxt_asm_laws_layout.proofs.Held.{AreHeld, AreItems, IsHeld, IsNumber, zero_held}

-- ---- bytes

abbrev pub AreSmallBytes : List ℕ → Type 0
AreSmallBytes bytes = Each (λ b. b < 256) bytes

byte_cut : (b : ℕ) → b < 256 → cut Ubyte (pos b) ≡ pos b
byte_cut b small = let e : b % 2 ^ 32 % 2 ^ 8 ≡ b = omega (arith, small) in ap pos e

byte_items : (bytes : List ℕ) → AreSmallBytes bytes → Each (IsNumber Ubyte) (map (λ b. Num (pos b)) bytes)
byte_items [] h = tt
byte_items (b ∷ bytes) h = ((refl, byte_cut b h.0), byte_items bytes h.1)

-- ---- lists

list_held : (n : ℕ) (s : Shape) (vs : List Value) → AreItems s vs → IsHeld (Array n s) (list_of vs)
list_held n s vs h = (ap list_of (sym (items-values vs)), subst (AreItems s) (sym (items-values vs)) h)

text_held : (n : ℕ) (bytes : List ℕ) → AreSmallBytes bytes → IsHeld (Array n (Number Ubyte)) (text_value bytes)
text_held n bytes h =
    list_held n (Number Ubyte) (map (λ b. Num (pos b)) (ended bytes))
    (byte_items (ended bytes) (each_join (λ b. b < 256) bytes (0 ∷ []) h (omega arith, tt)))

number_fits : (k : Kind) (z : ℤ) → int_eq (cut k z) z ≡ true → IsNumber k (Num z)
number_fits k z e = (refl, (Decides-int_eq (cut k z) z).0 e)

numbers_fit : (k : Kind) (zs : List ℤ) → list_all (fits_shape (Number k)) zs ≡ true → Each (IsNumber k) (map Num zs)
numbers_fit k [] e = tt
numbers_fit k (z ∷ zs) e =
    let two = and_parts (fits_shape (Number k) z) (list_all (fits_shape (Number k)) zs) e in (number_fits k z two.0, numbers_fit k zs two.1)

items_fit : (s : Shape) (zs : List ℤ) → list_all (fits_shape s) zs ≡ true → AreItems s (map Num zs)
items_fit (Number k) zs e = numbers_fit k zs e
items_fit Void [] e = refl
items_fit Void (z ∷ zs) e = absurd (true≢false (sym e))
items_fit (Array n s) [] e = refl
items_fit (Array n s) (z ∷ zs) e = absurd (true≢false (sym e))
items_fit (Cluster ss) [] e = refl
items_fit (Cluster ss) (z ∷ zs) e = absurd (true≢false (sym e))
items_fit Mutex [] e = refl
items_fit Mutex (z ∷ zs) e = absurd (true≢false (sym e))

-- ---- starts

-- the bytes of a text that a variable starts with
abbrev pub GivenBytes : Given → Type 0
GivenBytes (forms.Bytes bytes) = AreSmallBytes bytes
GivenBytes g = ⊤

one_held : (s : Shape) (z : ℤ) → fits_shape s z ≡ true → IsHeld s (Num z)
one_held (Number k) z e = number_fits k z e
one_held Void z e = absurd (true≢false (sym e))
one_held (Array n s) z e = absurd (true≢false (sym e))
one_held (Cluster ss) z e = absurd (true≢false (sym e))
one_held Mutex z e = absurd (true≢false (sym e))

many_held : (s : Shape) (zs : List ℤ) → fit_elements s zs ≡ true → IsHeld s (list_of (map Num zs))
many_held (Array n s) zs e = list_held n s (map Num zs) (items_fit s zs e)
many_held Void zs e = absurd (true≢false (sym e))
many_held (Number k) zs e = absurd (true≢false (sym e))
many_held (Cluster ss) zs e = absurd (true≢false (sym e))
many_held Mutex zs e = absurd (true≢false (sym e))

-- a start that is in range gives a value of the shape
start_held : (s : Shape) (g : Given) → start_fits s g ≡ true → Holds s g → GivenBytes g → IsHeld s (starts_as s (start_of g))
start_held s forms.Nothing e holds small = zero_held s
start_held s (forms.One z) e holds small = one_held s z e
start_held s (forms.Many zs) e holds small = many_held s zs e
start_held s (forms.Bytes bytes) e holds small = subst (λ q. IsHeld q (text_value bytes)) (sym holds.1) (text_held holds.0 bytes small)

-- ---- constants

distinct_each : {A : Type 0} (P : A → Type 0) (same : A → A → Bool) (xs : List A) → Each P xs → Each P (distinct same xs)
distinct_each P same [] h = tt
distinct_each P same (x ∷ xs) h =
    (h.0, each_filter P (λ y. not (same x y)) (distinct same xs) (each_then P (λ y. not (same x y) ≡ true → P y) (λ y k _. k) (distinct same xs) (distinct_each P same xs h.1)))

abbrev IsConstant : ℤ → Type 0
IsConstant z = cut Slong z ≡ z

arg_constant : (x : NbcArg) → Each IsConstant (numbers_in x)
arg_constant (args.Number z) = (cut-extend Slong (word z), tt)
arg_constant args.Left = tt
arg_constant (args.Var i path) = tt
arg_constant (args.Text bytes) = tt
arg_constant (args.Imm n) = tt
arg_constant (args.Block b) = tt
arg_constant (args.Back b) = tt
arg_constant (args.Jump place) = tt

constants_cut : (t : Text) → Each IsConstant (constants t)
constants_cut t = distinct_each IsConstant int_eq (flat_map numbers_in (all_args t)) (each_flat IsConstant numbers_in (all_args t) (each_from _ arg_constant (all_args t)))

-- the bytes of a text operand
abbrev pub ArgBytes : NbcArg → Type 0
ArgBytes (args.Text bytes) = AreSmallBytes bytes
ArgBytes x = ⊤

arg_texts : (x : NbcArg) → ArgBytes x → Each AreSmallBytes (texts_in x)
arg_texts (args.Text bytes) h = (h, tt)
arg_texts (args.Number z) h = tt
arg_texts args.Left h = tt
arg_texts (args.Var i path) h = tt
arg_texts (args.Imm n) h = tt
arg_texts (args.Block b) h = tt
arg_texts (args.Back b) h = tt
arg_texts (args.Jump place) h = tt

texts_small : (t : Text) → Each ArgBytes (all_args t) → Each AreSmallBytes (texts t)
texts_small t h =
    distinct_each AreSmallBytes bytes_eq (flat_map texts_in (all_args t)) (each_flat AreSmallBytes texts_in (all_args t) (each_then ArgBytes (λ x. Each AreSmallBytes (texts_in x)) arg_texts (all_args t) h))

-- ---- all values

held_append : (ss ts : List Shape) (vs ws : List Value) → AreHeld (members ss) vs → AreHeld (members ts) ws → AreHeld (members (ss ++ ts)) (vs ++ ws)
held_append [] ts [] ws a b = b
held_append [] ts (v ∷ vs) ws a b = cc
held_append (s ∷ ss) ts [] ws a b = absurd a
held_append (s ∷ ss) ts (v ∷ vs) ws a b = (a.0, held_append ss ts vs ws a.1 b)

zeros_held : (ss : List Shape) → AreHeld (members ss) (map zero_of ss)
zeros_held [] = refl
zeros_held (s ∷ ss) = (zero_held s, zeros_held ss)

numbers_held : (zs : List ℤ) → Each IsConstant zs → AreHeld (members (map (λ z. Number Slong) zs)) (map Num zs)
numbers_held [] h = refl
numbers_held (z ∷ zs) h = ((refl, h.0), numbers_held zs h.1)

texts_held : (ts : List (List ℕ)) → Each AreSmallBytes ts → AreHeld (members (map (λ t. text_shape) ts)) (map text_value ts)
texts_held [] h = refl
texts_held (t ∷ ts) h = (text_held 1 t h.0, texts_held ts h.1)

-- a variable's start is in range, and a text is of bytes
pub record IsGiven (types : List Struct) (v : Variable) : Type 0 where
  pub range : start_fits (shape_in types v.type) v.given ≡ true
  pub holds : Holds (shape_in types v.type) v.given
  pub bytes : GivenBytes v.given

vars_held : (types : List Struct) (vs : List Variable) → Each (IsGiven types) vs
    → AreHeld (members (map (λ (v : program.Variable). v.shape) (map (program_var types) vs))) (map (λ (v : program.Variable). starts_as v.shape v.start) (map (program_var types) vs))
vars_held types [] h = refl
vars_held types (v ∷ vs) h = (start_held (shape_in types v.type) v.given h.0.range h.0.holds h.0.bytes, vars_held types vs h.1)

-- the starting values of what a text declares
pub source_held : (src : Source) → Each (IsGiven src.types) src.vars → Each ArgBytes (all_args (program_of src)) → AreHeld (members (all_shapes (program_of src))) (all_values (program_of src) (first_values (program_of src)))
source_held src given small =
    let t : Text = program_of src in
    let numbers = map (λ z. Number Slong) (constants t) in
    let declared = map (λ (v : program.Variable). v.shape) (map (program_var src.types) src.vars) in
    let first = map (λ (v : program.Variable). starts_as v.shape v.start) (map (program_var src.types) src.vars) in
    let vars = held_append declared (returns t) first (map zero_of (returns t)) (vars_held src.types src.vars given) (zeros_held (returns t)) in
    held_append (shapes t ++ numbers) (map (λ b. text_shape) (texts t)) (first_values t ++ map Num (constants t)) (map text_value (texts t))
    (held_append (shapes t) numbers (first_values t) (map Num (constants t)) vars (numbers_held (constants t) (constants_cut t)))
    (texts_held (texts t) (texts_small t small))
