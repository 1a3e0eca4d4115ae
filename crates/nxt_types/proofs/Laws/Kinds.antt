-- Numbers cut to their kind.
use Rattle.std.proofs.Common.{◌≡◌, ℕ, ◌-◌, ◌<◌, ◌%◌, ◌^◌, Bool, true, false, suc, ltb, ap, arith}
use Rattle.std.specs.Prelude.{pos, negsuc}
use Rattle.std.specs.Int.{w8, w16, w32, cast_signed}
use mir.Val.{sel}
use Rattle.nxt_types.specs.Arithmetic.{word, cut, extend}
use Rattle.nxt_types.specs.declared.kind.Kind.{Kind}
use Rattle.nxt_types.specs.declared.kind.Kind.TheVariants.{Ubyte, Sbyte, Uword, Sword, Ulong, Slong}

-- the low bits of a number's word are those that it was read from
back_8 : (m : ℕ) (b : Bool) → m < 2 ^ 8 → word (sel b (pos m) (negsuc (2 ^ 8 - suc m))) % 2 ^ 8 ≡ m
back_8 m true h = omega arith
back_8 m false h = omega arith

back_16 : (m : ℕ) (b : Bool) → m < 2 ^ 16 → word (sel b (pos m) (negsuc (2 ^ 16 - suc m))) % 2 ^ 16 ≡ m
back_16 m true h = omega arith
back_16 m false h = omega arith

back_32 : (m : ℕ) (b : Bool) → m < 2 ^ 32 → word (sel b (pos m) (negsuc (2 ^ 32 - suc m))) % 2 ^ 32 ≡ m
back_32 m true h = omega arith
back_32 m false h = omega arith

-- a number that was read by its kind is left by the cut to it
pub cut-extend : (k : Kind) (n : ℕ) → cut k (extend k n) ≡ extend k n
cut-extend Ubyte n = let e : n % 2 ^ 8 % 2 ^ 32 % 2 ^ 8 ≡ n % 2 ^ 8 = omega arith in ap pos e
cut-extend Sbyte n = ap (cast_signed w8) (back_8 (n % 2 ^ 8) (ltb (n % 2 ^ 8) (2 ^ 7)) (omega arith))
cut-extend Uword n = let e : n % 2 ^ 16 % 2 ^ 32 % 2 ^ 16 ≡ n % 2 ^ 16 = omega arith in ap pos e
cut-extend Sword n = ap (cast_signed w16) (back_16 (n % 2 ^ 16) (ltb (n % 2 ^ 16) (2 ^ 15)) (omega arith))
cut-extend Ulong n = let e : n % 2 ^ 32 % 2 ^ 32 % 2 ^ 32 ≡ n % 2 ^ 32 = omega arith in ap pos e
cut-extend Slong n = ap (cast_signed w32) (back_32 (n % 2 ^ 32) (ltb (n % 2 ^ 32) (2 ^ 31)) (omega arith))
