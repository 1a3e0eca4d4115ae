-- Numbers as they are held: cut to a span that is beyond each range.
use Rattle.std.specs.Prelude.{ℕ, suc, ◌^◌, min, map, ℤ, pos, negsuc, neg_ℤ}
use Rattle.nxt_model.specs.Nbc.Tokens.{Word, Name, Number, Quoted, Sign}
use Rattle.nxt_model.specs.Nbc.Forms.{Term, Named, Literal, Quote, Given, Nothing, One, Many, Bytes, Form, Declare, Precedes, Follows, ExitTo, Call, Do, Formed}

abbrev pub most_held : ℕ
most_held = 2 ^ 62

-- from - 2 ^ 62 to 2 ^ 62
abbrev pub held : ℤ → ℤ
held (pos n) = pos (min n most_held)
held (negsuc n) = neg_ℤ (pos (min (suc n) most_held))

abbrev pub held_word : Word → Word
held_word (Name n) = Name n
held_word (Number z) = Number (held z)
held_word (Quoted s) = Quoted s
held_word (Sign b) = Sign b

abbrev pub held_term : Term → Term
held_term (Named ns) = Named ns
held_term (Literal z) = Literal (held z)
held_term (Quote s) = Quote s

abbrev pub held_given : Given → Given
held_given Nothing = Nothing
held_given (One z) = One (held z)
held_given (Many zs) = Many (map held zs)
held_given (Bytes s) = Bytes s

abbrev pub held_form : Form → Form
held_form (Declare n t g) = Declare n t (held_given g)
held_form (Precedes ts) = Precedes (map held_term ts)
held_form (Follows ts) = Follows (map held_term ts)
held_form (ExitTo t) = ExitTo (held_term t)
held_form (Call t) = Call (held_term t)
held_form (Do label op cmp ts) = Do label op cmp (map held_term ts)
held_form f = f

abbrev pub held_formed : Formed → Formed
held_formed f = record f { forms = map (λ l. (l.0, held_form l.1)) f.forms }
