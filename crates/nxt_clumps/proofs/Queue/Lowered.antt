-- Dependents are lowered one by one.
use Rattle.std.proofs.Common.{◌≡◌, ℕ, ◌+◌, ◌<◌, Bool, true, false, if◌then◌else◌, List, ◌∷◌, length, get_or, drop, ℤ, pos, Option, refl, ap, sym, ◌∙◌, add-one}
use Rattle.std.proofs.Math.Seq.{drop-cons}
use Rattle.std.specs.Prelude.{◌&&◌, int_le}
use Rattle.nxt_model.specs.declared.line.Stop.{Stop}
use Rattle.nxt_model.specs.Clumps.{Plan, Clumps, lower, lower_all, between, unless_stopped}

-- the next one, and those behind it
next : (plans : List Plan) (start end : ℤ) (k : ℕ) (ds : List ℕ) (d : ℕ) (cs : Clumps) (b : Bool) → k < length ds → get_or ds k 0 ≡ d → (int_le start (pos k) && int_le (pos k) end) ≡ b
    → lower_all plans (between start end k (drop k ds)) cs
    ≡ lower_all plans (if b then d ∷ between start end (k + 1) (drop (k + 1) ds) else between start end (k + 1) (drop (k + 1) ds)) cs
next plans start end k ds d cs b inside here e =
    let rest = drop (k + 1) ds in
    ap (λ (l : List ℕ). lower_all plans (between start end k l) cs)
    (drop-cons ds k 0 inside ∙ ap (λ (n : ℕ). get_or ds k 0 ∷ drop n ds) (sym (add-one k)) ∙ ap (λ (x : ℕ). x ∷ rest) here)
    ∙ ap (λ (b : Bool). lower_all plans (if b then d ∷ between start end (k + 1) rest else between start end (k + 1) rest) cs) e

pub passes-over : (plans : List Plan) (start end : ℤ) (k : ℕ) (ds : List ℕ) (cs : Clumps) → k < length ds → (int_le start (pos k) && int_le (pos k) end) ≡ false
    → lower_all plans (between start end k (drop k ds)) cs ≡ lower_all plans (between start end (k + 1) (drop (k + 1) ds)) cs
passes-over plans start end k ds cs inside e = next plans start end k ds (get_or ds k 0) cs false inside refl e

pub lowers : (plans : List Plan) (start end : ℤ) (k : ℕ) (ds : List ℕ) (d : ℕ) (cs : Clumps) (r : Option Stop) → k < length ds → get_or ds k 0 ≡ d
    → (int_le start (pos k) && int_le (pos k) end) ≡ true → (lower plans d cs).1 ≡ r
    → lower_all plans (between start end k (drop k ds)) cs
    ≡ unless_stopped (lower_all plans (between start end (k + 1) (drop (k + 1) ds))) (lower plans d cs).0 r
lowers plans start end k ds d cs r inside here e f =
    next plans start end k ds d cs true inside here e
    ∙ ap (λ (r : Option Stop). unless_stopped (lower_all plans (between start end (k + 1) (drop (k + 1) ds))) (lower plans d cs).0 r) f
