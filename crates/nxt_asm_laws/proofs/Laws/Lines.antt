-- The forms of every text's lines and blocks.
use Rattle.std.proofs.Common.{ℕ, Bool, true, false, List, [], ◌∷◌, Option, Some, None}
use Rattle.std.specs.Prelude.{if◌then◌else◌}
use Rattle.nxt_model.specs.Nbc.Tokens.{Line}
use Rattle.nxt_model.specs.Nbc.Forms as forms
use Rattle.nxt_model.specs.Nbc.Forms.{Form, Formed, Open, form_in, open_after, ends_empty, put_form, bad_at, formed_line, formed_from}
use Rattle.nxt_model.specs.Nbc.Text.{Block, items_of, blocks_in}
use Rattle.nxt_asm_laws.proofs.Laws.Lists.{Each}
use Rattle.nxt_asm_laws.proofs.Laws.Forms.{Fine, IsFormed, LineFormed, form_fine}

-- ---- lines

-- one more line
put_formed : (line : ℕ) (f : Form) (more : Formed) (c : Bool) → IsFormed f → Each LineFormed more.forms
    → Each LineFormed (if c then bad_at line (put_form line f more) else put_form line f more).forms
put_formed line f more true h hs = (h, hs)
put_formed line f more false h hs = (h, hs)

line_formed : (line : ℕ) (x : Option Form) (o : Open) (more : Open → Formed) → Fine x → ((p : Open) → Each LineFormed (more p).forms)
    → Each LineFormed (formed_line line x o more).forms
line_formed line None o more h hs = hs o
line_formed line (Some f) o more h hs = put_formed line f (more (open_after line f o)) (ends_empty f o) h (hs (open_after line f o))

-- each form of a text
pub each_formed : (ls : List Line) (o : Open) → Each LineFormed (formed_from ls o).forms
each_formed [] o = tt
each_formed (l ∷ ls) o = line_formed l.0 (form_in o l.1) o (formed_from ls) (form_fine l.1 o) (each_formed ls)

-- ---- blocks

items_formed : (fs : List (ℕ × Form)) → Each LineFormed fs → Each LineFormed (items_of fs)
items_formed [] h = tt
items_formed ((l, forms.CloseBlock) ∷ fs) h = (tt, tt)
items_formed ((l, f) ∷ fs) h = (h.0, items_formed fs h.1)

-- and each of a block
pub blocks_formed : (fs : List (ℕ × Form)) → Each LineFormed fs → Each (λ (b : Block). Each LineFormed b.items) (blocks_in fs)
blocks_formed [] h = tt
blocks_formed ((l, forms.OpenThread name) ∷ fs) h = (items_formed fs h.1, blocks_formed fs h.1)
blocks_formed ((l, forms.OpenSubroutine name) ∷ fs) h = (items_formed fs h.1, blocks_formed fs h.1)
blocks_formed ((l, f) ∷ fs) h = blocks_formed fs h.1
