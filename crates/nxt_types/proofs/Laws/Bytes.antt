-- Numbers that stand in bytes.
use Rattle.std.proofs.Common.{◌≡◌, ℕ, ◌+◌, ◌*◌, List, take, drop, get_or, sym, ap, ap₂, ◌∙◌, arith, add-zero}
use Rattle.std.proofs.lemmas.List.{get_or-take, get_or-drop}
use Rattle.nxt_types.specs.Bytes.{u16_at}

-- the two bytes there tell the number
pub u16_at-window : (bytes : List ℕ) (at : ℕ) → u16_at bytes at ≡ u16_at (take 2 (drop at bytes)) 0
u16_at-window bytes at =
    let rest = drop at bytes in
    ap₂
    (λ low high. low + 256 * high)
    (sym (get_or-take 2 rest 0 0 (omega arith) ∙ get_or-drop at bytes 0 0 ∙ ap (λ k. get_or bytes k 0) (add-zero at)))
    (sym (get_or-take 2 rest 1 0 (omega arith) ∙ get_or-drop at bytes 1 0))

-- where the same bytes stand, the same number does
pub u16_at-same : (xs ys : List ℕ) (at to : ℕ) → take 2 (drop at xs) ≡ take 2 (drop to ys) → u16_at xs at ≡ u16_at ys to
u16_at-same xs ys at to same = u16_at-window xs at ∙ ap (λ window. u16_at window 0) same ∙ sym (u16_at-window ys to)
