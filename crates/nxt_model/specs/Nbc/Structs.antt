-- The structs that the lines of a text declare.
use Rattle.std.specs.Prelude.{ℕ, List, [], ◌∷◌, ◌++◌, length, Option, Some, None}
use Rattle.nxt_model.specs.Nbc.Forms as forms
use Rattle.nxt_model.specs.Nbc.Forms.{Form, TypeName}
use Rattle.nxt_model.specs.Nbc.Types.{Struct, StructMember, type_at}
use Rattle.nxt_model.specs.Nbc.Header.{header_at}

-- where the header is included first, if it is, and all structs in the order of the text
pub record Types : Type 0 where
  pub included : Option ℕ
  pub structs : List Struct

-- the header's structs stand where it is included first
abbrev pub add_header : Option ℕ → Types → ℕ → Types
add_header None t line = record { included = Some line; structs = t.structs ++ header_at (length t.structs) line }
add_header (Some first) t line = t

abbrev pub with_header : Types → ℕ → Types
with_header t line = add_header t.included t line

-- a member's type is that at its line
abbrev pub with_member : Types → List StructMember → ℕ → List ℕ → TypeName → List StructMember
with_member t ms line name of = ms ++ record { name = name; type = type_at t.structs line of } ∷ []

abbrev pub with_struct : Types → List ℕ → List StructMember → ℕ → Types
with_struct t name ms line = record t { structs = t.structs ++ record { name = name; members = ms; line = line } ∷ [] }

-- the structs after these lines, with those before them, and with the name and the members so far of the struct that is open
abbrev pub types_from : Types → List ℕ → List StructMember → List (ℕ × Form) → Types
types_from t name ms [] = t
types_from t name ms ((l, forms.Include) ∷ fs) = types_from (with_header t l) name ms fs
types_from t name ms ((l, forms.OpenStruct n) ∷ fs) = types_from t n [] fs
types_from t name ms ((l, forms.Member n of) ∷ fs) = types_from t name (with_member t ms l n of) fs
types_from t name ms ((l, forms.CloseStruct) ∷ fs) = types_from (with_struct t name ms l) [] [] fs
types_from t name ms (f ∷ fs) = types_from t name ms fs

abbrev pub no_types : Types
no_types = record { included = None; structs = [] }

abbrev pub types_of : List (ℕ × Form) → Types
types_of fs = types_from no_types [] [] fs
