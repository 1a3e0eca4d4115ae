-- The names of comparisons and types.
use Rattle.std.specs.Prelude.{ℕ, List, [], ◌∷◌, find, codes, bytes_eq, slice_index_or, Option}
use Rattle.nxt_types.specs.Statements.{comparisons}
use Rattle.nxt_types.specs.declared.kind.Cmp.{Cmp}
use Rattle.nxt_types.specs.declared.kind.Cmp.TheVariants.{Lt, Gt, Lteq, Gteq, Eq, Neq}

abbrev pub cmp_name : Cmp → List ℕ
cmp_name Lt = codes "LT"
cmp_name Gt = codes "GT"
cmp_name Lteq = codes "LTEQ"
cmp_name Gteq = codes "GTEQ"
cmp_name Eq = codes "EQ"
cmp_name Neq = codes "NEQ"

abbrev pub cmp_named : List ℕ → Option Cmp
cmp_named name = find (λ c. bytes_eq (cmp_name c) name) comparisons

-- by the codes of table entries
abbrev pub type_names : List (List ℕ)
type_names =
    codes "void" ∷ codes "ubyte" ∷ codes "sbyte" ∷ codes "uword" ∷ codes "sword" ∷ codes "ulong" ∷ codes "slong"
    ∷ codes "array" ∷ codes "cluster" ∷ codes "mutex" ∷ []

abbrev pub type_name : ℕ → List ℕ
type_name code = slice_index_or type_names code []
