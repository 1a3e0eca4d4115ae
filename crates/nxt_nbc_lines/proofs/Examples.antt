-- Worked tokens.
use Rattle.std.proofs.Common.{◌≡◌, ℕ, [], ◌∷◌, refl, Ok, Err}
use Rattle.std.specs.Prelude.{codes}
use Rattle.nxt_model.specs.Nbc.Tokens.{Token, tokens_of}

abbrev token : ℕ → ℕ → ℕ → Token
token line at len = record { line = line; at = at; len = len }

no_tokens : tokens_of (codes " \t\r\n\n; a\n// b") ≡ Ok []
no_tokens = refl

two_lines : tokens_of (codes "thread main\r\n\tset x, 1") ≡ Ok (token 1 0 6 ∷ token 1 7 4 ∷ token 2 14 3 ∷ token 2 18 1 ∷ token 2 19 1 ∷ token 2 21 1 ∷ [])
two_lines = refl

dollar : tokens_of (codes "$") ≡ Err 1
dollar = refl

-- a comment over two lines counts both
long_comment : tokens_of (codes "a /* b\n* / c\n**/ d\ne") ≡ Ok (token 1 0 1 ∷ token 3 17 1 ∷ token 4 19 1 ∷ [])
long_comment = refl

-- the star that begins a comment doesn't end it
short_comments : tokens_of (codes "/*/ a\n/**/ b /**/") ≡ Ok (token 2 11 1 ∷ [])
short_comments = refl

open_comment : tokens_of (codes "a\n /* b\n\n* /") ≡ Err 2
open_comment = refl

minus_five : tokens_of (codes "-5") ≡ Ok (token 1 0 2 ∷ [])
minus_five = refl

-- a minus belongs to the digits right behind it
minus_alone : tokens_of (codes "3--5\n- 5") ≡ Err 1
minus_alone = refl

hexadecimal : tokens_of (codes "0x1F -0xag") ≡ Ok (token 1 0 4 ∷ token 1 5 4 ∷ token 1 9 1 ∷ [])
hexadecimal = refl

-- a great X, or no hexadecimal digit behind the x: a numeral and a name
other_x : tokens_of (codes "0X1F 0xg") ≡ Ok (token 1 0 1 ∷ token 1 1 3 ∷ token 1 5 1 ∷ token 1 6 2 ∷ [])
other_x = refl

quotes : tokens_of (codes "'it \"is\"' \"isn't ; /* so\"''") ≡ Ok (token 1 0 9 ∷ token 1 10 15 ∷ token 1 25 2 ∷ [])
quotes = refl

open_text : tokens_of (codes "'a'\n\"b\n\"") ≡ Err 2
open_text = refl

-- a text ends neither with the other quote nor behind a tab
open_texts : tokens_of (codes "'a\"") ≡ Err 1
open_texts = refl

tab_in_text : tokens_of (codes "\n'a\t'") ≡ Err 2
tab_in_text = refl

signs : tokens_of (codes "#include,s.x:[]") ≡ Ok (token 1 0 1 ∷ token 1 1 7 ∷ token 1 8 1 ∷ token 1 9 1 ∷ token 1 10 1 ∷ token 1 11 1 ∷ token 1 12 1 ∷ token 1 13 1 ∷ token 1 14 1 ∷ [])
signs = refl

lone_slash : tokens_of (codes "a / b") ≡ Err 1
lone_slash = refl
