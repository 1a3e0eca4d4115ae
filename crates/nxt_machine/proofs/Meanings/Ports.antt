-- What a statement on motors or sensors means.
use Rattle.std.proofs.Common.{◌≡◌, ℕ, zero, suc, ◌-◌, ◌<◌, ◌≤◌, List, [], ◌∷◌, length, drop, map, min, Bool, true, false, refl, sym, ap, ap₂, ◌∙◌, arith, set-set, ◌++◌}
use Rattle.std.specs.List.{list_any}
use Rattle.std.specs.Prelude.{ℤ, pos, ◌==◌, ◌||◌, ◌/◌, if◌then◌else◌, zip, filter, nat_lt, nat_abs, slice_index_or, slice_set}
use Rattle.std.proofs.lemmas.Bool.Decides.{nat_tests}
use Rattle.std.proofs.lemmas.Simd.{map-map}
use Rattle.std.proofs.lemmas.List.{append-nil, length-set, get_or-set_same, get_or_past, set-get_or}
use Rattle.nxt_types.specs.declared.kind.Cmp.{Cmp}
use Rattle.nxt_types.specs.declared.instr.Op.TheVariants as ops
use Rattle.nxt_types.specs.declared.kind.Kind.TheVariants.{Ubyte}
use Rattle.nxt_types.specs.Arithmetic.{word, cut}
use Rattle.nxt_types.specs.Names.{named}
use Rattle.nxt_types.specs.Shapes.{Shape, is_number}
use Rattle.nxt_types.specs.Opcodes.{pairs_of}
use Rattle.nxt_types.specs.declared.opcodes.Class.TheVariants.{Immediate as immediate, NumberIn}
use Rattle.nxt_types.specs.Statements.{statement}
use Rattle.nxt_model.specs.Devices.{Devices, Change, changed, each_port, and_then, motor_at, with_motor, set_property, property, set_in, get_in, get_out, sensor_writable, motor_writable, with_property, as_property, sensor_kinds, motor_kinds, update_flags, updated, motor_line}
use Rattle.nxt_model.specs.Means.Effects.{Operand, Given, device_change}
use Rattle.nxt_model.specs.Means.Ports.{named_ports, set_pairs, set_motor, set_output, commit_if_flagged}
use Rattle.nxt_model.specs.Values.{Value, number, word_of, bytes_of, elements}
use Rattle.nxt_model.specs.Variables.{part_of, refers, references, read}
use Rattle.nxt_space.specs.Variables.{Variables, shape_by, value_by}
use Rattle.nxt_operands.specs.Numbers.{numbers_in}
use Rattle.nxt_operands.specs.Operands.{given}
use Rattle.nxt_operands.proofs.Laws.Named.{IsNamed}
use Rattle.nxt_machine.specs.Numbers.{number_at, with_pairs, flags_set, ports_at, is_among, set_motor_by, set_motors_by}

-- ---- the pairs

module _ (s : Variables) where
  -- the operands that n pairs of words give
  abbrev pub pair_operands : ℕ → List ℕ → List Operand
  pair_operands n ps = map (read s.values) (map (λ p. refers s.shapes p.0 p.1) (zip (pairs_of immediate NumberIn n) ps))

  pub pairs_set : (n : ℕ) (ps : List ℕ) (m : List ℤ) → n ≡ length ps / 2 → set_pairs (pair_operands n ps) m ≡ with_pairs s ps m
  pairs_set zero [] m e = refl
  pairs_set zero (p ∷ []) m e = refl
  pairs_set zero (p ∷ v ∷ more) m e = let f : ⊥ = omega (arith, e) in absurd f
  pairs_set (suc n) [] m e = let f : ⊥ = omega (arith, e) in absurd f
  pairs_set (suc n) (p ∷ []) m e = let f : ⊥ = omega (arith, e) in absurd f
  pairs_set (suc n) (p ∷ v ∷ more) m e =
      let less : n ≡ length more / 2 = omega (arith, e) in
      pairs_set n more (set_property p (number_at s v) m) less

  motor_same : (n : ℕ) (ps : List ℕ) (port : ℕ) (d : Devices) → n ≡ length ps / 2 → set_motor (pair_operands n ps) port d ≡ set_motor_by s ps port d
  motor_same n ps port d e = ap (λ m. commit_if_flagged port (with_motor port m d)) (pairs_set n ps (motor_at port d) e)

-- ---- ports, one after another

each_same : (ports : List ℕ) (f g : ℕ → Devices → Change) → ((p : ℕ) (d : Devices) → f p d ≡ g p d) → (d : Devices) → each_port ports f d ≡ each_port ports g d
each_same [] f g e d = refl
each_same (p ∷ ps) f g e d =
    ap (λ c. and_then c (each_port ps f)) (e p d)
    ∙ ap (λ more. changed more.devices ((g p d).lines ++ more.lines)) (each_same ps f g e (g p d).devices)

-- the k-th port is the next one, where it is among those that count
pub each_next : (is : ℕ → Bool) (f : ℕ → Devices → Change) (d : Devices) (xs : List ℕ) (k : ℕ) → k < length xs →
    each_port (filter is (drop k xs)) f d
    ≡ (let p = slice_index_or xs k 0 in let rest = each_port (filter is (drop (suc k) xs)) f in if is p then and_then (f p d) rest else rest d)
each_next is f d [] k few = let no : ⊥ = omega (arith, few) in absurd no
each_next is f d (x ∷ xs) zero few = by (is x)
  where
    by : (b : Bool) → each_port (if b then x ∷ filter is xs else filter is xs) f d ≡ (if b then and_then (f x d) (each_port (filter is xs) f) else each_port (filter is xs) f d)
    by true = refl
    by false = refl
each_next is f d (x ∷ xs) (suc k) few = each_next is f d xs k (omega (arith, few))

-- of one port its motor is set, if there is such a port
pub only_port : (w : ℕ) → filter (is_among (w ∷ [])) (0 ∷ 1 ∷ 2 ∷ []) ≡ (if nat_lt w 3 then w ∷ [] else [])
only_port zero = refl
only_port (suc zero) = refl
only_port (suc (suc zero)) = refl
only_port (suc (suc (suc w))) =
    let a : (suc (suc (suc w)) == 0) ≡ false = grind arith in
    let b : (suc (suc (suc w)) == 1) ≡ false = grind arith in
    let c : (suc (suc (suc w)) == 2) ≡ false = grind arith in
    let d : nat_lt (suc (suc (suc w))) 3 ≡ false = grind arith in
    rw (a, b, c, d) refl

pub one_port : (w : ℕ) (f : ℕ → Devices → Change) (d : Devices) → nat_lt w 3 ≡ true → each_port (filter (is_among (w ∷ [])) (0 ∷ 1 ∷ 2 ∷ [])) f d ≡ f w d
one_port w f d e =
    ap (λ ports. each_port ports f d) (only_port w ∙ ap (λ b. if b then w ∷ [] else []) e)
    ∙ ap (λ ls. changed (f w d).devices ls) (append-nil (f w d).lines)

pub no_port : (w : ℕ) (f : ℕ → Devices → Change) (d : Devices) → nat_lt w 3 ≡ false → each_port (filter (is_among (w ∷ [])) (0 ∷ 1 ∷ 2 ∷ [])) f d ≡ changed d []
no_port w f d e = ap (λ ports. each_port ports f d) (only_port w ∙ ap (λ b. if b then w ∷ [] else []) e)

pub given_same : (s : Variables) (a : ℕ) → IsNamed s a → read s.values (part_of (named s.shapes a)) ≡ given s a
given_same s a is = ap (λ o. read s.values (part_of o)) is.by_word ∙ sym (ap (λ o. Given (shape_by o) (value_by o s.values)) is.by_entry)

-- the effect of the statement that sets motors
pub setout_after : (s : Variables) (cmp : Cmp) (a : ℕ) (ps : List ℕ) (d : Devices) → IsNamed s a →
    set_output d (map (read s.values) (references s.shapes (statement ops.Setout cmp (a ∷ ps)))) ≡ device_change (set_motors_by s (ports_at s a) ps d)
setout_after s cmp a ps d is =
    let n : (suc (length ps) - 1) / 2 ≡ length ps / 2 = omega arith in
    let port : Operand = read s.values (part_of (named s.shapes a)) in
    let os = pair_operands s (length ps / 2) ps in
    ap (λ k. set_output d (port ∷ pair_operands s k ps)) n
    ∙ ap (λ o. set_output d (o ∷ os)) (given_same s a is)
    ∙ ap device_change (each_same (filter (is_among (ports_at s a)) (0 ∷ 1 ∷ 2 ∷ [])) (set_motor os) (set_motor_by s ps) (λ p e. motor_same s (length ps / 2) ps p e refl) d)

-- ---- one motor

-- what was stored in it is what it holds
pub motor_again : (port : ℕ) (m : List ℤ) (d : Devices) → port < length d.motors → motor_at port (with_motor port m d) ≡ m
motor_again port m d there = get_or-set_same d.motors port m [] there

pub motor_kept : (port : ℕ) (d : Devices) → with_motor port (motor_at port d) d ≡ d
motor_kept port d = ap (λ ms. record d { motors = ms }) (set-get_or d.motors port [])

pub motor_twice : (port : ℕ) (m n : List ℤ) (d : Devices) → with_motor port m (with_motor port n d) ≡ with_motor port m d
motor_twice port m n d = ap (λ ms. record d { motors = ms }) (set-set d.motors port n m)

-- ---- update flags

-- the update flags, where words that are a property and name a number in turn are stored
abbrev pub flags_by : Variables → List ℕ → ℕ → ℕ
flags_by s [] flags = flags
flags_by s (p ∷ []) flags = flags
flags_by s (p ∷ v ∷ more) flags = flags_by s more (flags_set flags p (number_at s v))

flags_stored : (p : ℕ) (z : ℤ) (m : List ℤ) → 0 < length m → update_flags (set_property p z m) ≡ flags_set (update_flags m) p z
flags_stored p z [] some = let no : ⊥ = omega (arith, some) in absurd no
flags_stored zero z (x ∷ xs) some = refl
flags_stored (suc p) z (x ∷ xs) some =
    let other : (suc p == 0) ≡ false = grind arith in
    by (motor_writable (suc p)) ∙ sym (ap (λ b. if b then nat_abs (cut Ubyte z) else update_flags (x ∷ xs)) other)
  where
    by : (b : Bool) → update_flags (if b then slice_set (x ∷ xs) (suc p) (as_property motor_kinds (suc p) z) else x ∷ xs) ≡ update_flags (x ∷ xs)
    by true = refl
    by false = refl

property_length : (p : ℕ) (z : ℤ) (m : List ℤ) → length (set_property p z m) ≡ length m
property_length p z m = by (motor_writable p)
  where
    by : (b : Bool) → length (if b then slice_set m p (as_property motor_kinds p z) else m) ≡ length m
    by true = length-set m p (as_property motor_kinds p z)
    by false = refl

-- they are those of the motor in which the words are stored
pub flags_of_pairs : (s : Variables) (ps : List ℕ) (m : List ℤ) → 0 < length m → update_flags (with_pairs s ps m) ≡ flags_by s ps (update_flags m)
flags_of_pairs s [] m some = refl
flags_of_pairs s (p ∷ []) m some = refl
flags_of_pairs s (p ∷ v ∷ more) m some =
    let z = number_at s v in
    let same = property_length p z m in
    flags_of_pairs s more (set_property p z m) (omega (arith, some, same)) ∙ ap (flags_by s more) (flags_stored p z m some)

flags_more : (s : Variables) (xs : List ℕ) (k flags : ℕ) → suc k < length xs →
    flags_by s (drop (suc (suc k)) xs) (flags_set flags (slice_index_or xs k 0) (number_at s (slice_index_or xs (suc k) 0))) ≡ flags_by s (drop k xs) flags
flags_more s [] k flags h = let no : ⊥ = omega (arith, h) in absurd no
flags_more s (x ∷ []) zero flags h = let no : ⊥ = omega (arith, h) in absurd no
flags_more s (x ∷ y ∷ xs) zero flags h = refl
flags_more s (x ∷ xs) (suc k) flags h = flags_more s xs k flags (omega (arith, h))

-- a pair stands at k and behind it
pub flags_next : (s : Variables) (xs : List ℕ) (k j l flags : ℕ) → j ≡ suc k → l ≡ suc (suc k) → j < length xs →
    flags_by s (drop l xs) (flags_set flags (slice_index_or xs k 0) (number_at s (slice_index_or xs j 0))) ≡ flags_by s (drop k xs) flags
flags_next s xs k j l flags e f h =
    ap₂ (λ a b. flags_by s (drop b xs) (flags_set flags (slice_index_or xs k 0) (number_at s (slice_index_or xs a 0)))) e f
    ∙ flags_more s xs k flags (omega (arith, e, h))

pub flags_done : (s : Variables) (xs : List ℕ) (k flags : ℕ) → length xs ≤ suc k → flags_by s (drop k xs) flags ≡ flags
flags_done s [] zero flags h = refl
flags_done s [] (suc k) flags h = refl
flags_done s (x ∷ []) zero flags h = refl
flags_done s (x ∷ y ∷ xs) zero flags h = let no : ⊥ = omega (arith, h) in absurd no
flags_done s (x ∷ xs) (suc k) flags h = flags_done s xs k flags (omega (arith, h))

silent_by : (port : ℕ) (d : Devices) (b c : Bool) → c ≡ true →
    (if b
    then changed d []
    else (if c then changed (with_motor port (updated (motor_at port d)) d) (motor_line port (motor_at port d) ∷ []) else changed d [])).lines
    ≡ [] → b ≡ true
silent_by port d true c there none = refl
silent_by port d false true there none = let no : ⊥ = cc in absurd no
silent_by port d false false there none = let no : ⊥ = cc in absurd no

-- a motor that tells no line has no flag
pub silent_flags : (s : Variables) (ps : List ℕ) (port : ℕ) (d : Devices) → port < 3 → length d.motors ≡ 3 → (set_motor_by s ps port d).lines ≡ [] →
    update_flags (with_pairs s ps (motor_at port d)) ≡ 0
silent_flags s ps port d low motors none =
    let m = with_pairs s ps (motor_at port d) in
    let e = with_motor port m d in
    let there : port < length d.motors = omega (arith, low, motors) in
    let test : nat_lt port 3 ≡ true = grind (arith, nat_tests, low) in
    let no_flag : (update_flags (motor_at port e) == 0) ≡ true = silent_by port e (update_flags (motor_at port e) == 0) (nat_lt port 3) test none in
    let zero_flags : update_flags (motor_at port e) ≡ 0 = grind (arith, nat_tests, no_flag) in
    sym (ap update_flags (motor_again port m d there)) ∙ zero_flags

-- ---- the ports of a list

-- the words of its numbers are those of its elements
pub ports_listed : (t : Shape) (v : Value) (zs : List ℤ) → is_number t ≡ false → zs ≡ numbers_in v → map word zs ≡ named_ports (Given t v)
ports_listed t v zs other e =
    ap (map word) e ∙ map-map word number (elements v) ∙ sym (ap (λ b. if b then word_of v ∷ [] else bytes_of v) other)

-- the word of a number is its only port
pub port_named : (t : Shape) (v : Value) → is_number t ≡ true → word (number v) ∷ [] ≡ named_ports (Given t v)
port_named t v is = sym (ap (λ b. if b then word_of v ∷ [] else bytes_of v) is)

-- a port is among them where it is one of its words
pub among_words : (zs : List ℤ) (port : ℕ) → list_any (λ z. word z == port) zs ≡ is_among (map word zs) port
among_words [] port = refl
among_words (z ∷ zs) port = ap (λ b. (word z == port) || b) (among_words zs port)

-- ---- ports and properties that don't exist

-- a port past 255 is one as much as port 255 is
property_past : (table : List (List ℤ)) (w prop : ℕ) → length table ≤ 255 → property table (min w 255) prop ≡ property table w prop
property_past table w prop few = by (nat_lt w 255) refl
  where
    by : (b : Bool) → nat_lt w 255 ≡ b → property table (min w 255) prop ≡ property table w prop
    by true e = let same : min w 255 ≡ w = grind (arith, nat_tests, e) in ap (λ p. property table p prop) same
    by false e =
        let last : min w 255 ≡ 255 = grind (arith, nat_tests, e) in
        let past : length table ≤ w = grind (arith, nat_tests, e, few) in
        ap (λ p. property table p prop) last
        ∙ ap (λ row. slice_index_or row prop (pos 0)) (get_or_past table 255 [] few ∙ sym (get_or_past table w [] past))

pub input_past : (w prop : ℕ) (d : Devices) → length d.sensors ≤ 255 → prop < 256 → get_in (min w 255) (min prop 255) d ≡ get_in w prop d
input_past w prop d few small = let same : min prop 255 ≡ prop = omega (arith, small) in ap (λ p. get_in (min w 255) p d) same ∙ property_past d.sensors w prop few

pub output_past : (w prop : ℕ) (d : Devices) → length d.motors ≤ 255 → prop < 256 → get_out (min w 255) (min prop 255) d ≡ get_out w prop d
output_past w prop d few small = let same : min prop 255 ≡ prop = omega (arith, small) in ap (λ p. get_out (min w 255) p d) same ∙ property_past d.motors w prop few

set_past : {X : Type 0} (xs : List X) (w : ℕ) (x : X) → length xs ≤ w → slice_set xs w x ≡ xs
set_past [] w x few = refl
set_past (y ∷ ys) zero x few = let no : ⊥ = omega (arith, few) in absurd no
set_past (y ∷ ys) (suc w) x few = ap (λ zs. y ∷ zs) (set_past ys w x (omega (arith, few)))

with_past : (table : List (List ℤ)) (w prop : ℕ) (z : ℤ) → length table ≤ 255 → with_property table (min w 255) prop z ≡ with_property table w prop z
with_past table w prop z few = by (nat_lt w 255) refl
  where
    by : (b : Bool) → nat_lt w 255 ≡ b → with_property table (min w 255) prop z ≡ with_property table w prop z
    by true e = let same : min w 255 ≡ w = grind (arith, nat_tests, e) in ap (λ p. with_property table p prop z) same
    by false e =
        let last : min w 255 ≡ 255 = grind (arith, nat_tests, e) in
        let past : length table ≤ w = grind (arith, nat_tests, e, few) in
        ap (λ p. with_property table p prop z) last ∙ set_past table 255 _ few ∙ sym (set_past table w _ past)

-- a property past 255 is none, as 255 is
pub set_input_past : (w prop : ℕ) (z : ℤ) (d : Devices) → length d.sensors ≤ 255 → set_in (min w 255) (min prop 255) z d ≡ set_in w prop z d
set_input_past w prop z d few = by (nat_lt prop 255) refl
  where
    there : set_in (min w 255) prop z d ≡ set_in w prop z d
    there = ap (λ table. if sensor_writable prop then record d { sensors = table } else d) (with_past d.sensors w prop (as_property sensor_kinds prop z) few)

    by : (b : Bool) → nat_lt prop 255 ≡ b → set_in (min w 255) (min prop 255) z d ≡ set_in w prop z d
    by true e = let same : min prop 255 ≡ prop = grind (arith, nat_tests, e) in ap (λ p. set_in (min w 255) p z d) same ∙ there
    by false e =
        let last : min prop 255 ≡ 255 = grind (arith, nat_tests, e) in
        let none : sensor_writable prop ≡ false = grind (arith, nat_tests, e) in
        ap (λ p. set_in (min w 255) p z d) last
        ∙ sym (ap (λ b. if b then record d { sensors = with_property d.sensors w prop (as_property sensor_kinds prop z) } else d) none)

pub set_property_past : (prop : ℕ) (z : ℤ) (m : List ℤ) → set_property (min prop 255) z m ≡ set_property prop z m
set_property_past prop z m = by (nat_lt prop 255) refl
  where
    by : (b : Bool) → nat_lt prop 255 ≡ b → set_property (min prop 255) z m ≡ set_property prop z m
    by true e = let same : min prop 255 ≡ prop = grind (arith, nat_tests, e) in ap (λ p. set_property p z m) same
    by false e =
        let last : min prop 255 ≡ 255 = grind (arith, nat_tests, e) in
        let none : motor_writable prop ≡ false = grind (arith, nat_tests, e) in
        ap (λ p. set_property p z m) last ∙ sym (ap (λ b. if b then slice_set m prop (as_property motor_kinds prop z) else m) none)
