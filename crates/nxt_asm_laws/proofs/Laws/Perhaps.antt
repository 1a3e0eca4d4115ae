-- Forms that pass a test, whatever gives them.
use Rattle.std.proofs.Common.{◌≡◌, Bool, true, false, ◌&&◌, List, [], ◌∷◌, ℕ, Option, Some, None, refl}
use Rattle.std.specs.Prelude.{if◌then◌else◌, ⊤, option_map, option_and_then}
use Rattle.nxt_model.specs.Nbc.Tokens.{Word, Name}
use Rattle.nxt_model.specs.Nbc.Forms.{Form, Term, is_word, ◌or_else◌, one_name, term_of, terms_of, two_names, with_list, with_name, with_term}

-- a form that passes, where there is one
abbrev pub Perhaps : (Form → Type 0) → Option Form → Type 0
Perhaps P None = ⊤
Perhaps P (Some f) = P f

module _ (P : Form → Type 0) where
  -- one of two forms
  pub one_of : (c : Bool) (a b : Option Form) → Perhaps P a → Perhaps P b → Perhaps P (if c then a else b)
  one_of true a b h k = h
  one_of false a b h k = k

  pub either : (a b : Option Form) → Perhaps P a → Perhaps P b → Perhaps P (a or_else b)
  either (Some f) b h k = h
  either None b h k = k

  -- what another step gives
  pub followed : {A : Type 0} (g : A → Option Form) (o : Option A) → ((x : A) → Perhaps P (g x)) → Perhaps P (option_and_then g o)
  followed g None h = tt
  followed g (Some x) h = h x

  pub known : {A : Type 0} (g : A → Option Form) (o : Option A) → ((x : A) → o ≡ Some x → Perhaps P (g x)) → Perhaps P (option_and_then g o)
  known g None h = tt
  known g (Some x) h = h x refl

  pub mapped : {A : Type 0} (g : A → Form) (o : Option A) → ((x : A) → P (g x)) → Perhaps P (option_map g o)
  mapped g None h = tt
  mapped g (Some x) h = h x

  -- words of one form
  pub two_fine : (a b : List ℕ) (f : Form) → P f → (ws : List Word) → Perhaps P (two_names a b f ws)
  two_fine a b f h (v ∷ w ∷ []) = one_of (is_word v a && is_word w b) (Some f) None h tt
  two_fine a b f h _ = tt

  pub name_fine : (a : List ℕ) (g : List ℕ → Form) → ((n : List ℕ) → P (g n)) → (ws : List Word) → Perhaps P (with_name a g ws)
  name_fine a g h (v ∷ Name n ∷ []) = one_of (is_word v a) (Some (g n)) None (h n) tt
  name_fine a g h _ = tt

  pub single_fine : (a : List ℕ) (f : Form) → P f → (ws : List Word) → Perhaps P (one_name a f ws)
  single_fine a f h (w ∷ []) = one_of (is_word w a) (Some f) None h tt
  single_fine a f h _ = tt

  pub term_fine : (a : List ℕ) (g : Term → Form) → ((t : Term) → P (g t)) → (ws : List Word) → Perhaps P (with_term a g ws)
  term_fine a g h [] = tt
  term_fine a g h (v ∷ ws) = one_of (is_word v a) (option_map g (term_of ws)) None (mapped g (term_of ws) h) tt

  pub list_fine : (a : List ℕ) (g : List Term → Form) → ((ts : List Term) → P (g ts)) → (ws : List Word) → Perhaps P (with_list a g ws)
  list_fine a g h [] = tt
  list_fine a g h (v ∷ ws) = one_of (is_word v a) (option_map g (terms_of ws)) None (mapped g (terms_of ws) h) tt
