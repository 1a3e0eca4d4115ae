-- An empty program, and one array, assembled.
use Rattle.std.proofs.Common.{◌≡◌, ℕ, List, [], ◌∷◌, refl, length, Result, Ok, Err, Some}
use Rattle.std.specs.Prelude.{codes}
use Rattle.nxt_model.specs.Nbc.Tokens.{Token, tokens_of, lines_of}
use Rattle.nxt_model.specs.Nbc.Forms.{Formed, formed}
use Rattle.nxt_model.specs.Nbc.Text.{source_of, program_of}
use Rattle.nxt_model.specs.TextProgram.{Text}
use Rattle.nxt_rxe.specs.Files.{file_of}
use Rattle.nxt_asm_rules.specs.AsmRules.{start_footprint}
use Rattle.nxt_asm_parts.specs.AssembledParts.{parts_of}

abbrev forms_of : List ℕ → Result (List Token) ℕ → Formed
forms_of text (Ok ts) = formed (lines_of text ts)
forms_of text (Err l) = record { forms = []; bad = Some l }

abbrev parsed : List ℕ → Text
parsed text = program_of (source_of (forms_of text (tokens_of text)).forms)

-- main, and nothing in it
empty_file : List ℕ
empty_file =
    77 ∷ 105 ∷ 110 ∷ 100 ∷ 115 ∷ 116 ∷ 111 ∷ 114 ∷ 109 ∷ 115 ∷ 78 ∷ 88
    ∷ 84 ∷ 0 ∷ 0 ∷ 5 ∷ 0 ∷ 0 ∷ 0 ∷ 0 ∷ 0 ∷ 0 ∷ 0 ∷ 0
    ∷ 0 ∷ 0 ∷ 0 ∷ 0 ∷ 0 ∷ 0 ∷ 0 ∷ 0 ∷ 0 ∷ 0 ∷ 1 ∷ 0
    ∷ 3 ∷ 0 ∷ 0 ∷ 0 ∷ 0 ∷ 0 ∷ 42 ∷ 96 ∷ 0 ∷ 0 ∷ 255 ∷ 255 ∷ []

empty : file_of (parts_of (parsed (codes "thread main\nendt"))) ≡ empty_file
unfolding empty_file
empty = refl

empty_footprint : start_footprint (parsed (codes "thread main\nendt")) ≡ 12
empty_footprint = refl

empty_size : length (file_of (parts_of (parsed (codes "thread main\nendt")))) ≡ 48
empty_size = refl

-- a list without elements, and three numbers as operands
arrays : start_footprint (parsed (codes "dseg segment\na byte[]\ndseg ends\nthread main\narrinit a, 0, 32732\narrinit a, 0, 32733\nendt")) ≡ 36
arrays = refl

-- the array's row, the table of rows with an empty row, and the constants behind it
array_defaults : (parts_of (parsed (codes "dseg segment\na byte[]\nb word 7\ndseg ends\nthread main\nstrcat a, a, 'hi'\nendt"))).defaults
    ≡ 1 ∷ 0 ∷ 7 ∷ 0 ∷ 2 ∷ 0
    ∷ 6 ∷ 0 ∷ 10 ∷ 0 ∷ 3 ∷ 0 ∷ 0 ∷ 0 ∷ 0 ∷ 0
    ∷ 255 ∷ 255 ∷ 1 ∷ 0 ∷ 0 ∷ 0 ∷ 0 ∷ 0 ∷ 0 ∷ 0
    ∷ 36 ∷ 0 ∷ 1 ∷ 0 ∷ 3 ∷ 0 ∷ 0 ∷ 0 ∷ 0 ∷ 0
    ∷ 104 ∷ 105 ∷ 0 ∷ []
array_defaults = refl
