-- A test of numbers that answers one way far above and one way far below says the same of numbers as they are held.
use Rattle.std.proofs.Common.{◌≡◌, ℕ, suc, ◌-◌, ◌<◌, ◌≤◌, ◌%◌, ◌^◌, min, Bool, true, false, not, ◌&&◌, ◌||◌, ltb, leb, refl, sym, ap, ◌∙◌, arith, inl, inr, ℤ, pos, negsuc, neg_ℤ, nat_abs}
use Rattle.std.specs.Prelude.{if◌then◌else◌}
use Rattle.std.specs.Ordering.{int_eq}
use mir.Val.{sel}
use Rattle.std.proofs.Math.Nat.{min-eq_left, min-eq_right}
use Rattle.std.proofs.Math.Bool.{and-false}
use Rattle.std.proofs.lemmas.Bool.{cases_lt, ltb-true, lt-ltb, both_ways, false_from_ne_true}
use Rattle.std.proofs.lemmas.Bool.Decides.{Decides-int_eq}
use Rattle.nxt_types.specs.Arithmetic.{word, cut}
use Rattle.nxt_types.specs.declared.kind.Kind.{Kind}
use Rattle.nxt_types.specs.declared.kind.Kind.TheVariants.{Ubyte, Sbyte, Uword, Sword, Ulong, Slong}
use Rattle.nxt_types.specs.Shapes.{Shape, Number}
use Rattle.nxt_model.specs.Nbc.Text.{is_word, ANumber}
use Rattle.nxt_model.specs.Nbc.NbcRules.{word_for, fits_shape, is_wide}
use Rattle.nxt_nbc_lines.specs.Held.{most_held, held}

-- f has one value far above, and one far below
pub record Levels {B : Type 0} (f : ℤ → B) (high low : B) : Type 0 where
  pub above : (n : ℕ) → most_held ≤ n → f (pos n) ≡ high
  pub below : (n : ℕ) → most_held ≤ suc n → f (negsuc n) ≡ low

-- such an f doesn't see how a number is held
pub level : {B : Type 0} (f : ℤ → B) (high low : B) → Levels f high low → (z : ℤ) → f (held z) ≡ f z
level f high low s (pos n) =
    elim (cases_lt n most_held) as (λ _. f (pos (min n most_held)) ≡ f (pos n)) [
      | inl lt ↦ ap (λ m. f (pos m)) (min-eq_left (omega (arith, lt)))
      | inr ge ↦ ap (λ m. f (pos m)) (min-eq_right ge) ∙ s.above most_held (omega arith) ∙ sym (s.above n ge)
    ]
level f high low s (negsuc n) =
    elim (cases_lt (suc n) most_held) as (λ _. f (neg_ℤ (pos (min (suc n) most_held))) ≡ f (negsuc n)) [
      | inl lt ↦ ap (λ m. f (neg_ℤ (pos m))) (min-eq_left (omega (arith, lt)))
      | inr ge ↦ ap (λ m. f (neg_ℤ (pos m))) (min-eq_right ge) ∙ s.below (2 ^ 62 - 1) (omega arith) ∙ sym (s.below n ge)
    ]

-- a number that passes a test that fails far above and far below is held as it is
pub near : (f : ℤ → Bool) → Levels f false false → (z : ℤ) → f z ≡ true → held z ≡ z
near f s (pos n) e =
    elim (cases_lt n most_held) as (λ _. pos (min n most_held) ≡ pos n) [
      | inl lt ↦ ap pos (min-eq_left (omega (arith, lt)))
      | inr ge ↦ absurd (both_ways (f (pos n)) (s.above n ge) e)
    ]
near f s (negsuc n) e =
    elim (cases_lt (suc n) most_held) as (λ _. neg_ℤ (pos (min (suc n) most_held)) ≡ negsuc n) [
      | inl lt ↦ ap (λ m. neg_ℤ (pos m)) (min-eq_left (omega (arith, lt)))
      | inr ge ↦ absurd (both_ways (f (negsuc n)) (s.below n ge) e)
    ]

-- ---- words

not_below : (a b : ℕ) → b ≤ a → ltb a b ≡ false
not_below a b ge = false_from_ne_true (ltb a b) (λ e. let f : ⊥ = omega (arith, ltb-true a b e, ge) in f)

word_levels : Levels is_word false false
word_levels = record {
  above = λ n far. ap (λ c. leb 0 n && c) (not_below n 65536 (omega (arith, far))) ∙ and-false (leb 0 n);
  below = λ n far. refl;
}

word_for_levels : Levels word_for 65535 65535
word_for_levels = record {
  above = λ n far. ap (λ c. if c then n else 65535) (word_levels.above n far);
  below = λ n far. refl;
}

pub word_for_held : (z : ℤ) → word_for (held z) ≡ word_for z
word_for_held z = level word_for 65535 65535 word_for_levels z

-- ---- numbers that are wide

abbrev pub is_wide_number : ℤ → Bool
is_wide_number z = is_wide (ANumber z)

above_wide : (n : ℕ) → most_held ≤ n → is_wide_number (pos n) ≡ true
above_wide n far = lt-ltb 4294967295 n (omega (arith, far))

below_wide : (n : ℕ) → most_held ≤ suc n → is_wide_number (negsuc n) ≡ true
below_wide n far = ap (λ c. c || false) (lt-ltb 2147483647 n (omega (arith, far)))

pub wide_held : (z : ℤ) → is_wide_number (held z) ≡ is_wide_number z
wide_held z = level is_wide_number true true (record { above = above_wide; below = below_wide }) z

pub narrow_same : (z : ℤ) → is_wide_number z ≡ false → held z ≡ z
narrow_same z e = near (λ y. not (is_wide_number y)) (record { above = λ n far. ap not (above_wide n far); below = λ n far. ap not (below_wide n far) }) z (ap not e)

-- ---- numbers that fit a kind

sel_small : (m p : ℕ) (b : Bool) → m ≤ 2 ^ 32 → p < 2 ^ 32 → nat_abs (sel b (pos m) (negsuc p)) ≤ 2 ^ 32
sel_small m p true h k = h
sel_small m p false h k = omega (arith, k)

cut_small : (k : Kind) (z : ℤ) → nat_abs (cut k z) ≤ 2 ^ 32
cut_small Ubyte z = omega arith
cut_small Sbyte z = let m = word z % 2 ^ 8 in sel_small m (2 ^ 8 - suc m) (ltb m (2 ^ 7)) (omega arith) (omega arith)
cut_small Uword z = omega arith
cut_small Sword z = let m = word z % 2 ^ 16 in sel_small m (2 ^ 16 - suc m) (ltb m (2 ^ 15)) (omega arith) (omega arith)
cut_small Ulong z = omega arith
cut_small Slong z = let m = word z % 2 ^ 32 in sel_small m (2 ^ 32 - suc m) (ltb m (2 ^ 31)) (omega arith) (omega arith)

far_unfit : (k : Kind) (z : ℤ) → 2 ^ 32 < nat_abs z → int_eq (cut k z) z ≡ false
far_unfit k z far = false_from_ne_true (int_eq (cut k z) z) (λ e.
    let same : nat_abs (cut k z) ≡ nat_abs z = ap nat_abs ((Decides-int_eq (cut k z) z).0 e) in
    let f : ⊥ = omega (arith, same, far, cut_small k z) in f)

pub fits_levels : (s : Shape) → Levels (fits_shape s) false false
fits_levels (Number k) = record {
  above = λ n far. far_unfit k (pos n) (omega (arith, far));
  below = λ n far. far_unfit k (negsuc n) (omega (arith, far));
}
fits_levels _ = record { above = λ n far. refl; below = λ n far. refl }

pub fits_held : (s : Shape) (z : ℤ) → fits_shape s (held z) ≡ fits_shape s z
fits_held s z = level (fits_shape s) false false (fits_levels s) z

pub fits_same : (s : Shape) (z : ℤ) → fits_shape s z ≡ true → held z ≡ z
fits_same s z e = near (fits_shape s) (fits_levels s) z e
