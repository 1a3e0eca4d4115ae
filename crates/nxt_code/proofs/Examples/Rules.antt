-- The rules of clumps and code on worked programs.
use Rattle.std.proofs.Common.{◌≡◌, ℕ, zero, suc, ◌+◌, List, [], ◌∷◌, ◌++◌, refl, length, Option, Some, None}
use Rattle.std.specs.Prelude.{find, map, flat_map}
use Rattle.nxt_types.specs.Shapes.{Shape, Members, Number, Array, members, cluster_of}
use Rattle.nxt_types.specs.declared.kind.Kind.TheVariants.{Ubyte, Sbyte, Sword, Ulong}
use Rattle.nxt_code.specs.declared.fault.CodeFault.{CodeFault}
use Rattle.nxt_code.specs.declared.fault.CodeFault.TheVariants.{ClumpCount, ClumpStart, Dependent, Instr, Operand, Jump, FallsOut}
use Rattle.nxt_code.specs.CodeRules.{Program, breaks}

-- ---- every place of a small program, in the order of the rules

abbrev below : ℕ → List ℕ
below zero = []
below (suc n) = below n ++ n ∷ []

abbrev candidates : Program → List CodeFault
candidates p =
    let words = below (length p.words) in
    let clumps = below (length p.clumps) in
    (ClumpCount (length p.clumps) ∷ map (λ c. ClumpStart c) clumps)
    ++ flat_map (λ c. map (λ k. Dependent c k) (below (length p.dependents))) clumps
    ++ map (λ w. Instr w) words
    ++ flat_map (λ w. map (λ k. Operand w (k + 1)) words) words
    ++ map (λ w. Jump w) words
    ++ map (λ w. FallsOut w) words

abbrev first_broken : Program → Option CodeFault
first_broken p = find (breaks p) (candidates p)

abbrev one_clump : Members → ℕ → List ℕ → Program
one_clump ss start words =
    record { shapes = ss; clumps = record { fire = 0; dependents = 0; start = start } ∷ []; dependents = []; words = words }

-- ---- programs

abbrev numbers : Members
numbers = members (Number Ubyte ∷ Number Sbyte ∷ Number Ubyte ∷ [])

-- a setout and a finclump
abbrev setout : List ℕ
setout = 0xE031 ∷ 14 ∷ 0 ∷ 2 ∷ 1 ∷ 0 ∷ 2 ∷ 0x602A ∷ 0 ∷ 0xFFFF ∷ []

accepted : first_broken (one_clump numbers 0 setout) ≡ None
accepted = refl

starts_inside : first_broken (one_clump numbers 1 setout) ≡ Some (ClumpStart 0)
starts_inside = refl

jump_to_itself : first_broken (one_clump (members []) 0 (0x4025 ∷ 0 ∷ [])) ≡ None
jump_to_itself = refl

jump_into_itself : first_broken (one_clump (members []) 0 (0x4025 ∷ 1 ∷ [])) ≡ Some (Jump 0)
jump_into_itself = refl

unknown : first_broken (one_clump (members []) 0 (0x400F ∷ 0 ∷ [])) ≡ Some (Instr 0)
unknown = refl

no_clumps : first_broken (record { shapes = members []; clumps = []; dependents = []; words = [] }) ≡ Some (ClumpCount 0)
no_clumps = refl

empty : first_broken (one_clump (members []) 0 (0x602A ∷ 0 ∷ 0xFFFF ∷ [])) ≡ None
empty = refl

falls_out : first_broken (one_clump numbers 0 (0x401B ∷ 0 ∷ 1 ∷ [])) ≡ Some (Instr 0)
falls_out = refl

-- a mov of one number to another goes on past the end
falls : first_broken (one_clump numbers 0 (0x601B ∷ 0 ∷ 1 ∷ [])) ≡ Some (FallsOut 0)
falls = refl

-- ---- operands

abbrev text : Shape
text = Array 1 (Number Ubyte)

-- a text's cluster, two lists and a number
abbrev drawing : Members
drawing =
    members
    (cluster_of (Number Sbyte ∷ cluster_of (Number Sword ∷ Number Sword ∷ []) ∷ text ∷ Number Ulong ∷ [])
    ∷ Array 1 (Number Ubyte) ∷ Array 2 (Number Sword) ∷ Number Ulong ∷ [])

abbrev then_stop : List ℕ → Program
then_stop words = one_clump drawing 0 (words ++ 0x4029 ∷ 0xFFFF ∷ [])

draws : first_broken (then_stop (0x6028 ∷ 13 ∷ 0 ∷ [])) ≡ None
draws = refl

unknown_call : first_broken (then_stop (0x6028 ∷ 18 ∷ 0 ∷ [])) ≡ Some (Operand 0 1)
unknown_call = refl

other_cluster : first_broken (then_stop (0x6028 ∷ 13 ∷ 1 ∷ [])) ≡ Some (Operand 0 2)
other_cluster = refl

-- entries 8, 10 and 12 are the lists and the number: a sum of a list and a number in a list
adds : first_broken (then_stop (0x8000 ∷ 8 ∷ 10 ∷ 12 ∷ [])) ≡ None
adds = refl

adds_no_list : first_broken (then_stop (0x8000 ∷ 8 ∷ 12 ∷ 12 ∷ [])) ≡ Some (Operand 0 3)
adds_no_list = refl

list_into_number : first_broken (then_stop (0x8000 ∷ 12 ∷ 10 ∷ 10 ∷ [])) ≡ Some (Operand 0 2)
list_into_number = refl

compares_lists : first_broken (then_stop (0x8411 ∷ 12 ∷ 10 ∷ 8 ∷ [])) ≡ None
compares_lists = refl

compares_list_and_number : first_broken (then_stop (0x8411 ∷ 12 ∷ 10 ∷ 12 ∷ [])) ≡ Some (Operand 0 3)
compares_list_and_number = refl

no_text : first_broken (then_stop (0x6024 ∷ 8 ∷ 10 ∷ [])) ≡ Some (Operand 0 2)
no_text = refl
