-- The lines of blocks.
use Rattle.std.specs.Prelude.{◌≡◌, ℕ, Bool, true, List, [], ◌∷◌}
use Rattle.nxt_model.specs.Nbc.Forms as forms
use Rattle.nxt_model.specs.Nbc.Forms.{Form}
use Rattle.nxt_model.specs.Nbc.Text.{Block}

-- the last line closes the block, and only a subroutine has a return
abbrev pub GoodItems : Bool → List (ℕ × Form) → Type 0
GoodItems sub [] = ⊥
GoodItems sub ((l, forms.CloseBlock) ∷ fs) = fs ≡ []
GoodItems sub ((l, forms.Return) ∷ fs) = (sub ≡ true) × GoodItems sub fs
GoodItems sub ((l, f) ∷ fs) = GoodItems sub fs

abbrev pub IsGood : Block → Type 0
IsGood b = GoodItems b.subroutine b.items
