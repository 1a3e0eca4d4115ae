-- The bytes before the first zero.
use Rattle.std.proofs.Common.{◌≡◌, ℕ, not, ◌==◌, nat_lt, List, [], ◌∷◌, length, refl, arith}
use Rattle.std.specs.List.{prefix_len}
use Rattle.std.proofs.lemmas.Grind.{common_steps}
use Rattle.nxt_model.specs.DirectCommands.{has_zero}

-- there is a zero where the bytes before it are not all
pub has_zero_found : (bytes : List ℕ) → has_zero bytes ≡ nat_lt (prefix_len (λ b. not (b == 0)) bytes) (length bytes)
has_zero_found [] = refl
has_zero_found (b ∷ bytes) =
    let more : has_zero bytes ≡ nat_lt (prefix_len (λ b. not (b == 0)) bytes) (length bytes) = has_zero_found bytes in
    grind (arith, common_steps)
