-- A list of bytes cut or filled up with zeros.
use Rattle.std.proofs.Common.{◌≡◌, ℕ, ◌-◌, ◌++◌, ap₂, ◌<◌, ◌≤◌, List, length, take, get_or, replicate, ◌∙◌, arith, length-append, length-take}
use Rattle.std.proofs.lemmas.List.{take_all, append-nil, get_or-take, get_or-replicate, length-replicate, get_or_append_left, get_or-append_right}
use Rattle.nxt_heap.specs.Lists.{of_length}

pub length-of_length : (n : ℕ) (xs : List ℕ) → length (of_length n xs) ≡ n
length-of_length n xs =
    omega (arith, length-append (take n xs) (replicate (n - length xs) 0), length-take n xs, length-replicate {A = ℕ} (n - length xs) 0)

-- as many as there are
pub of_length-same : (n : ℕ) (xs : List ℕ) → length xs ≡ n → of_length n xs ≡ xs
of_length-same n xs same =
    let none : n - length xs ≡ 0 = omega (arith, same) in
    ap₂ (λ front m. front ++ replicate m 0) (take_all n xs (omega (arith, same))) none ∙ append-nil xs

pub of_length-front : (n : ℕ) (xs : List ℕ) (k : ℕ) → k < n → k < length xs → get_or (of_length n xs) k 0 ≡ get_or xs k 0
of_length-front n xs k below inside =
    get_or_append_left (take n xs) (replicate (n - length xs) 0) 0 k (omega (arith, length-take n xs)) ∙ get_or-take n xs k 0 below

pub of_length-back : (n : ℕ) (xs : List ℕ) (k : ℕ) → k < n → length xs ≤ k → get_or (of_length n xs) k 0 ≡ 0
of_length-back n xs k below past =
    let whole : length (take n xs) ≡ length xs = omega (arith, length-take n xs) in
    get_or-append_right (take n xs) (replicate (n - length xs) 0) (length xs) k 0 whole past
    ∙ get_or-replicate {A = ℕ} (n - length xs) (k - length xs) 0 0 (omega arith)
