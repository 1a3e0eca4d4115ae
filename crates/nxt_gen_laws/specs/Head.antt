-- The lines in front of the statements of a generated text: their marks, words and forms, and what they declare.
use Rattle.std.specs.Prelude.{ℕ, false, List, [], ◌∷◌, codes, Some}
use Rattle.nxt_types.specs.declared.kind.Kind.TheVariants.{Ubyte, Ulong}
use Rattle.nxt_model.specs.declared.nbc.NbcBase.TheVariants as bases
use Rattle.nxt_model.specs.Nbc.Tokens.{Line, Name, Quoted, Sign, Word}
use Rattle.nxt_model.specs.Nbc.Forms.{Form, Include, OpenData, CloseData, OpenThread, Declare, Nothing, type_name}
use Rattle.nxt_model.specs.Nbc.Header.{header_at, typed}
use Rattle.nxt_model.specs.Nbc.Text.{Block, NameSort, OfVariable, OfBlock, Source, Variable}
use Rattle.nxt_gen_laws.specs.Marks.{Mark, Written, Blank, NextLine}

-- ---- marks

abbrev pub list_marks : List ℕ → List Mark → List Mark
list_marks name ms = Written name ∷ Blank ∷ Written (codes "byte") ∷ Written (codes "[") ∷ Written (codes "]") ∷ NextLine ∷ ms

abbrev pub two_marks : List ℕ → List ℕ → List Mark → List Mark
two_marks a b ms = Written a ∷ Blank ∷ Written b ∷ NextLine ∷ ms

abbrev pub head_marks : List Mark
head_marks =
    Written (codes "#") ∷ Written (codes "include") ∷ Blank ∷ Written (codes "\"NXTDefs.h\"") ∷ NextLine
    ∷ two_marks (codes "dseg") (codes "segment")
    (list_marks (codes "a0")
    (list_marks (codes "a1")
    (list_marks (codes "a2")
    (list_marks (codes "a3")
    (list_marks (codes "a4")
    (list_marks (codes "a5")
    (list_marks (codes "a6")
    (list_marks (codes "a7")
    (two_marks (codes "n") (codes "long") (two_marks (codes "dseg") (codes "ends") (two_marks (codes "thread") (codes "main") [])))))))))))

-- ---- lines

abbrev pub list_words : List ℕ → List Word
list_words name = Name name ∷ Name (codes "byte") ∷ Sign 91 ∷ Sign 93 ∷ []

abbrev pub two_words : List ℕ → List ℕ → List Word
two_words a b = Name a ∷ Name b ∷ []

-- in front of other lines
abbrev pub head_lines : List Line → List Line
head_lines ls =
    (1, Sign 35 ∷ Name (codes "include") ∷ Quoted (codes "NXTDefs.h") ∷ []) ∷ (2, two_words (codes "dseg") (codes "segment"))
    ∷ (3, list_words (codes "a0"))
    ∷ (4, list_words (codes "a1"))
    ∷ (5, list_words (codes "a2"))
    ∷ (6, list_words (codes "a3"))
    ∷ (7, list_words (codes "a4"))
    ∷ (8, list_words (codes "a5"))
    ∷ (9, list_words (codes "a6"))
    ∷ (10, list_words (codes "a7"))
    ∷ (11, two_words (codes "n") (codes "long")) ∷ (12, two_words (codes "dseg") (codes "ends"))
    ∷ (13, two_words (codes "thread") (codes "main")) ∷ ls

-- ---- forms

abbrev pub list_form : List ℕ → Form
list_form name = Declare name (type_name (codes "byte") 1) Nothing

abbrev pub head_forms : List (ℕ × Form) → List (ℕ × Form)
head_forms fs =
    (1, Include) ∷ (2, OpenData)
    ∷ (3, list_form (codes "a0"))
    ∷ (4, list_form (codes "a1"))
    ∷ (5, list_form (codes "a2"))
    ∷ (6, list_form (codes "a3"))
    ∷ (7, list_form (codes "a4"))
    ∷ (8, list_form (codes "a5"))
    ∷ (9, list_form (codes "a6"))
    ∷ (10, list_form (codes "a7"))
    ∷ (11, Declare (codes "n") (type_name (codes "long") 0) Nothing) ∷ (12, CloseData) ∷ (13, OpenThread (codes "main")) ∷ fs

-- ---- what is declared

abbrev pub list_variable : ℕ → List ℕ → Variable
list_variable line name = record { name = name; type = typed (bases.Number Ubyte) 1; given = Nothing; line = line }

abbrev pub size_variable : Variable
size_variable = record { name = codes "n"; type = typed (bases.Number Ulong) 0; given = Nothing; line = 11 }

abbrev pub head_variables : List Variable
head_variables =
    list_variable 3 (codes "a0")
    ∷ list_variable 4 (codes "a1")
    ∷ list_variable 5 (codes "a2")
    ∷ list_variable 6 (codes "a3")
    ∷ list_variable 7 (codes "a4")
    ∷ list_variable 8 (codes "a5")
    ∷ list_variable 9 (codes "a6")
    ∷ list_variable 10 (codes "a7")
    ∷ size_variable ∷ []

-- the thread of these lines
abbrev pub main_block : List (ℕ × Form) → Block
main_block items = record { name = codes "main"; subroutine = false; line = 13; items = items }

-- in front of other names
abbrev pub head_names : List (List ℕ × NameSort) → List (List ℕ × NameSort)
head_names ns =
    (codes "a0", OfVariable) ∷ (codes "a1", OfVariable) ∷ (codes "a2", OfVariable) ∷ (codes "a3", OfVariable) ∷ (codes "a4", OfVariable)
    ∷ (codes "a5", OfVariable) ∷ (codes "a6", OfVariable) ∷ (codes "a7", OfVariable) ∷ (codes "n", OfVariable) ∷ (codes "main", OfBlock) ∷ ns

abbrev pub source_with : List (ℕ × Form) → Source
source_with items =
    record { included = Some 1; types = header_at 0 1; vars = head_variables; blocks = main_block items ∷ []; names = head_names [] }
