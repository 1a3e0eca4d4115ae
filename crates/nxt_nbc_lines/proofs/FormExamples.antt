-- Worked forms of lines.
use Rattle.std.proofs.Common.{◌≡◌, ℕ, List, [], ◌∷◌, Option, Some, None, refl, pos, negsuc}
use Rattle.std.specs.Prelude.{codes, neg_ℤ, Result, Ok, Err}
use Rattle.nxt_types.specs.declared.instr.Op.TheVariants as ops
use Rattle.nxt_types.specs.declared.kind.Cmp.TheVariants as cmps
use Rattle.nxt_model.specs.Nbc.Tokens.{Token, lines_of, tokens_of}
use Rattle.nxt_model.specs.Nbc.Forms.{Form, Formed, OpenData, CloseData, OpenStruct, CloseStruct, Declare, OpenThread, CloseBlock, Precedes, Label, Do, Named, Literal, Nothing, One, Many, Bytes, formed, type_name}
use Rattle.nxt_nbc_lines.specs.Held.{held, held_formed, most_held}

-- the forms of a text, with their numbers held
abbrev forms_by : List ℕ → Result (List Token) ℕ → Formed
forms_by text (Ok ts) = held_formed (formed (lines_of text ts))
forms_by text (Err line) = record { forms = []; bad = Some line }

abbrev forms : List ℕ → Formed
forms text = forms_by text (tokens_of text)

abbrev given : List (ℕ × Form) → Option ℕ → Formed
given fs bad = record { forms = fs; bad = bad }

held_less : held (pos 4611686018427387903) ≡ pos 4611686018427387903
held_less = refl

held_more : held (pos 4611686018427387905) ≡ pos most_held
held_more = refl

held_below : held (neg_ℤ (pos 99999999999999999999)) ≡ neg_ℤ (pos most_held)
held_below = refl

no_lines : forms (codes "\n ; a\n") ≡ given [] None
no_lines = refl

whole_thread : forms (codes "thread m\nadd a, b.c, -5\nendt")
    ≡ given ((1, OpenThread (codes "m"))
    ∷ (2, Do None ops.Add cmps.Lt (Named (codes "a" ∷ []) ∷ Named (codes "b" ∷ codes "c" ∷ []) ∷ Literal (negsuc 4) ∷ []))
    ∷ (3, CloseBlock) ∷ []) None
whole_thread = refl

open_thread : forms (codes "\nthread m") ≡ given ((2, OpenThread (codes "m")) ∷ []) (Some 2)
open_thread = refl

-- a label, and a statement behind one
labels : forms (codes "thread m\na:\nb: brtst NEQ, a, x\nendt")
    ≡ given ((1, OpenThread (codes "m")) ∷ (2, Label (codes "a"))
    ∷ (3, Do (Some (codes "b")) ops.Brtst cmps.Neq (Named (codes "a" ∷ []) ∷ Named (codes "x" ∷ []) ∷ []))
    ∷ (4, CloseBlock) ∷ []) None
labels = refl

declarations : forms (codes "dseg segment\na byte\nb byte 1\nc byte[] 1, 2\nd byte[] 'x'\ne byte[][]\ndseg ends")
    ≡ given ((1, OpenData) ∷ (2, Declare (codes "a") (type_name (codes "byte") 0) Nothing) ∷ (3, Declare (codes "b") (type_name (codes "byte") 0) (One (pos 1)))
    ∷ (4, Declare (codes "c") (type_name (codes "byte") 1) (Many (pos 1 ∷ pos 2 ∷ []))) ∷ (5, Declare (codes "d") (type_name (codes "byte") 1) (Bytes (codes "x")))
    ∷ (6, Declare (codes "e") (type_name (codes "byte") 2) Nothing) ∷ (7, CloseData) ∷ []) None
declarations = refl

-- a struct without a member is bad at its end
empty_struct : forms (codes "dseg segment\ns struct\ns ends\ndseg ends")
    ≡ given ((1, OpenData) ∷ (2, OpenStruct (codes "s")) ∷ (3, CloseStruct) ∷ (4, CloseData) ∷ []) (Some 3)
empty_struct = refl

-- the outermost is told of what is open at the end, and the first of what is bad
open_struct : forms (codes "thread m\ndseg segment\ns struct\nx byte 1")
    ≡ given ((1, OpenThread (codes "m")) ∷ (2, OpenData) ∷ (3, OpenStruct (codes "s")) ∷ []) (Some 1)
open_struct = refl

-- a comparison stands in front of the operands where one is wanted, and there alone
comparisons : forms (codes "thread m\ntst a, b\nadd LT, b\nendt")
    ≡ given ((1, OpenThread (codes "m")) ∷ (4, CloseBlock) ∷ []) (Some 2)
comparisons = refl

-- a word of a thread names a label where a colon follows
word_as_label : forms (codes "thread m\nprecedes a\nprecedes:\nendt")
    ≡ given ((1, OpenThread (codes "m")) ∷ (2, Precedes (Named (codes "a" ∷ []) ∷ [])) ∷ (3, Label (codes "precedes")) ∷ (4, CloseBlock) ∷ []) None
word_as_label = refl
