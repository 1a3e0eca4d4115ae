-- Sections and pads, one after another.
use Rattle.std.proofs.Common.{◌≡◌, ℕ, ◌%◌, List, [], ◌++◌, length, replicate, ap, ap₂, ◌∙◌, append_assoc, arith}
use Rattle.std.proofs.lemmas.List.{length-append, length-replicate}
use Rattle.nxt_rxe.specs.Files.{pad_of}

pub joined : (h t d c e w f₀ f₁ f₂ f₃ f₄ f₅ f₆ f₇ f₈ : List ℕ) → f₀ ≡ [] → f₁ ≡ f₀ ++ h → f₂ ≡ f₁ ++ t → f₃ ≡ f₂ ++ d → f₄ ≡ f₃ ++ pad_of f₃ → f₅ ≡ f₄ ++ c → f₆ ≡ f₅ ++ e → f₇ ≡ f₆ ++ pad_of f₆ → f₈ ≡ f₇ ++ w
    → f₈ ≡ (h ++ t ++ d) ++ pad_of (h ++ t ++ d) ++ (c ++ e) ++ pad_of (c ++ e) ++ w
joined h t d c e w f₀ f₁ f₂ f₃ f₄ f₅ f₆ f₇ f₈ e₀ e₁ e₂ e₃ e₄ e₅ e₆ e₇ e₈ =
    let front : f₃ ≡ h ++ t ++ d = e₃ ∙ ap (λ (l : List ℕ). l ++ d) (e₂ ∙ ap (λ (l : List ℕ). l ++ t) (e₁ ∙ ap (λ (l : List ℕ). l ++ h) e₀)) in
    let padded : f₄ ≡ (h ++ t ++ d) ++ pad_of (h ++ t ++ d) = e₄ ∙ ap (λ (l : List ℕ). l ++ pad_of l) front in
    let middle : f₆ ≡ ((h ++ t ++ d) ++ pad_of (h ++ t ++ d)) ++ (c ++ e) =
    e₆ ∙ ap (λ (l : List ℕ). l ++ e) (e₅ ∙ ap (λ (l : List ℕ). l ++ c) padded) ∙ append_assoc ((h ++ t ++ d) ++ pad_of (h ++ t ++ d)) c e in
    let len = ap length middle in
    let same : length f₆ % 2 ≡ length (c ++ e) % 2 =
    omega (
      arith,
      len,
      length-append ((h ++ t ++ d) ++ pad_of (h ++ t ++ d)) (c ++ e),
      length-append (h ++ t ++ d) (pad_of (h ++ t ++ d)),
      length-replicate {A = ℕ} (length (h ++ t ++ d) % 2) 0,
    ) in
    e₈ ∙ ap (λ (l : List ℕ). l ++ w) (e₇ ∙ ap₂ (λ (a b : List ℕ). a ++ b) middle (ap (λ n. replicate n 0) same))
