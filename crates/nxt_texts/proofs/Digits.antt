-- Numbers that texts spell.
use Rattle.std.proofs.Common.{◌≡◌, ℕ, ◌+◌, ◌-◌, ◌*◌, ◌%◌, ◌^◌, ◌<◌, true, cond, List, [], ◌∷◌, drop, length, get_or, refl, sym, ap, ◌∙◌, arith}
use Rattle.std.specs.Prelude.{ℤ, pos, negsuc}
use Rattle.std.specs.Fmt.{signed_decimal}
use Rattle.std.specs.List.{take_while}
use Rattle.std.proofs.lemmas.List.{drop_more}
use Rattle.std.proofs.lemmas.List.Sums.{take_while-cons}
use Rattle.nxt_model.specs.Means.Text.{number_text, is_digit, digits_value}

-- ---- writing

pub text_of_number : (z : ℤ) → signed_decimal z ≡ number_text z
text_of_number (pos n) = refl
text_of_number (negsuc n) = refl

-- ---- digits

one_digit : (m n d : ℕ) → m % 2 ^ 32 ≡ n % 2 ^ 32 → (m * 10 + d) % 2 ^ 32 ≡ (n * 10 + d) % 2 ^ 32
one_digit m n d e = omega (arith, e)

-- digits behind numbers with one word give one word
same_word : (m n : ℕ) (ds : List ℕ) → m % 2 ^ 32 ≡ n % 2 ^ 32 → digits_value m ds % 2 ^ 32 ≡ digits_value n ds % 2 ^ 32
same_word m n [] e = e
same_word m n (b ∷ ds) e = same_word (m * 10 + (b - 48)) (n * 10 + (b - 48)) ds (one_digit m n (b - 48) e)

-- a digit more
pub digit_more : (text : List ℕ) (k w d : ℕ) → k < length text → is_digit (get_or text k 0) ≡ true → d ≡ get_or text k 0 - 48 → digits_value ((w * 10 % 2 ^ 32 + d) % 2 ^ 32) (take_while is_digit (drop (k + 1) text)) % 2 ^ 32 ≡ digits_value w (take_while is_digit (drop k text)) % 2 ^ 32
digit_more text k w d less is e =
    let b = get_or text k 0 in
    let rest = drop (k + 1) text in
    let here : take_while is_digit (drop k text) ≡ b ∷ take_while is_digit rest =
    ap (take_while is_digit) (drop_more text k 0 less)
    ∙ take_while-cons is_digit b rest
    ∙ ap (λ t. cond t (b ∷ take_while is_digit rest) []) is
    in
    let next : ((w * 10 % 2 ^ 32 + d) % 2 ^ 32) % 2 ^ 32 ≡ (w * 10 + (b - 48)) % 2 ^ 32 = omega (arith, e) in
    same_word ((w * 10 % 2 ^ 32 + d) % 2 ^ 32) (w * 10 + (b - 48)) (take_while is_digit rest) next
    ∙ ap (λ ds. digits_value w ds % 2 ^ 32) (sym here)
