-- Bytes that are stored in a region.
use Rattle.std.proofs.Common.{◌≡◌, ℕ, ◌+◌, ◌%◌, ◌^◌, ◌<◌, ◌≤◌, ◌⊎◌, inl, inr, true, List, [], ◌∷◌, take, drop, set, get_or, length, Option, Some, None, is_some, refl, sym, ap, ap₂, ◌∙◌, arith}
use Rattle.std.proofs.lemmas.List.{length-set, set-get_or, get_or-set_same, get_or-set_other, drop_more, set-set}
use Rattle.std.proofs.lemmas.Nat.{from_le_bytes-to_le_bytes_4}
use Rattle.std.specs.Prelude.{ℤ, pos, negsuc}
use Rattle.std.specs.Int.{w8, w16, w32, cast_signed, from_le_bytes, to_le_bytes}
use Rattle.nxt_facts.specs.PutAt.{put_at}
use Rattle.nxt_facts.proofs.PutAt.{put_at-none, put_at-more}
use Rattle.nxt_types.specs.Arithmetic.{width_of, leaf_size, word, cut, extend}
use Rattle.nxt_types.specs.Bytes.{u16_at}
use Rattle.nxt_types.specs.declared.kind.Kind.{Kind}
use Rattle.nxt_types.specs.declared.kind.Kind.TheVariants.{Ubyte, Sbyte, Uword, Sword, Ulong, Slong}
use Rattle.nxt_types.proofs.Laws.Bytes.{u16_at-window}
use Rattle.nxt_model.specs.Means.Text.{number_in}
use Rattle.nxt_facts.proofs.Each.{Each, each_then}
use Rattle.nxt_heap.specs.Lists.{Lists, ByteList, list_at, stride_at, bytes_of, stride_of, with_list, IsAlive}
use Rattle.nxt_values.specs.Regions.{bytes_in, IsRegion}
use Rattle.nxt_model.specs.Spans.{Span}
use Rattle.nxt_values.specs.Writes.{with_bytes, put, bytes_of_number}
use Rattle.nxt_values.specs.declared.reading.Region.{Region}
use Rattle.nxt_values.specs.declared.reading.Region.TheVariants.{Static, Row}
use Rattle.nxt_values.proofs.Laws.HeldRows.{alive_within}
use Rattle.nxt_values.proofs.Hold.Frames.{IsSame, AreSame, set_same}

-- ---- regions

pub some_list : (o : Option ByteList) → is_some o ≡ true → Some (record { stride = stride_of o; bytes = bytes_of o }) ≡ o
some_list None e = let f : ⊥ = cc in absurd f
some_list (Some l) e = refl

-- the region has its own bytes
pub with_same : (h : Lists) (region : Region) → IsRegion h region → with_bytes h region (bytes_in h region) ≡ h
with_same h Static e = refl
with_same h (Row row) e =
    ap (λ o. with_list h row o) (some_list (list_at h row) e)
    ∙ ap (λ rows. record h { by_row = rows }) (set-get_or h.by_row row None)

pub at_row : (h : Lists) (row : ℕ) (l : Option ByteList) → IsAlive h row → list_at (with_list h row l) row ≡ l
at_row h row l e = get_or-set_same h.by_row row l None (alive_within h row e)

-- it has the bytes that it was given
pub bytes_with : (h : Lists) (region : Region) (bytes : List ℕ) → IsRegion h region → bytes_in (with_bytes h region bytes) region ≡ bytes
bytes_with h Static bytes e = refl
bytes_with h (Row row) bytes e =
    ap bytes_of (at_row h row (Some (record { stride = stride_at h row; bytes = bytes })) e)

pub region_with : (h : Lists) (region : Region) (bytes : List ℕ) → IsRegion h region → IsRegion (with_bytes h region bytes) region
region_with h Static bytes e = tt
region_with h (Row row) bytes e =
    ap is_some (at_row h row (Some (record { stride = stride_at h row; bytes = bytes })) e)

pub with_twice : (h : Lists) (region : Region) (xs ys : List ℕ) → IsRegion h region → with_bytes (with_bytes h region xs) region ys ≡ with_bytes h region ys
with_twice h Static xs ys e = refl
with_twice h (Row row) xs ys e =
    let l : ℕ → List ℕ → Option ByteList = λ stride bytes. Some (record { stride = stride; bytes = bytes }) in
    ap
    (λ stride. record h { by_row = set (set h.by_row row (l (stride_at h row) xs)) row (l stride ys) })
    (ap stride_of (at_row h row (l (stride_at h row) xs) e))
    ∙ ap
    (λ rows. record h { by_row = rows })
    (set-set h.by_row row (l (stride_at h row) xs) (l (stride_at h row) ys))

-- ---- bytes

pub length-put : (bs : List ℕ) (at : ℕ) (xs : List ℕ) → length (put bs at xs) ≡ length xs
length-put [] at xs = refl
length-put (b ∷ bs) at xs = length-put bs (at + 1) (set xs at b) ∙ length-set xs at b

-- where they fit, they stand between what is before and behind them
pub put-is : (bs : List ℕ) (at : ℕ) (xs : List ℕ) → at + length bs ≤ length xs → put_at at bs xs ≡ put bs at xs
put-is [] at xs fits = put_at-none at xs
put-is (b ∷ bs) at xs fits =
    put_at-more b bs at xs fits ∙ put-is bs (at + 1) (set xs at b) (omega (arith, fits, length-set xs at b))

-- ---- bytes that are read back

put_before : (bs : List ℕ) (at : ℕ) (xs : List ℕ) (i : ℕ) → i < at → get_or (put bs at xs) i 0 ≡ get_or xs i 0
put_before [] at xs i less = refl
put_before (b ∷ bs) at xs i less =
    put_before bs (at + 1) (set xs at b) i (omega (arith, less))
    ∙ get_or-set_other xs at i b 0 (λ e. omega (arith, e, less))

-- the bytes stand there
pub put_there : (bs : List ℕ) (at : ℕ) (xs : List ℕ) → at + length bs ≤ length xs → take (length bs) (drop at (put bs at xs)) ≡ bs
put_there [] at xs fits = refl
put_there (b ∷ bs) at xs fits =
    let ys = put bs (at + 1) (set xs at b) in
    let long : length ys ≡ length xs = length-put (b ∷ bs) at xs in
    let first : get_or ys at 0 ≡ b = put_before bs (at + 1) (set xs at b) at (omega arith) ∙ get_or-set_same xs at b 0 (omega (arith, fits)) in
    ap (take (length (b ∷ bs))) (drop_more ys at 0 (omega (arith, fits, long)))
    ∙ ap₂
    (λ c cs. c ∷ cs)
    first
    (put_there bs (at + 1) (set xs at b) (omega (arith, fits, length-set xs at b)))

-- the span shares none of n bytes, where its element begins at `base`
abbrev pub IsBeside : ℕ → ℕ → ℕ → Span → Type 0
IsBeside at n base p = (at + n ≤ base + p.place) ⊎ (base + p.place + p.width ≤ at)

beside_same : (bs : List ℕ) (at : ℕ) (xs : List ℕ) (base : ℕ) (p : Span) → IsBeside at (length bs) base p → IsSame xs (put bs at xs) base p
beside_same [] at xs base p e = refl
beside_same (b ∷ bs) at xs base p (inl e) =
    beside_same bs (at + 1) (set xs at b) base p (inl (omega (arith, e))) ∙ (set_same xs at b base (p ∷ []) (inl (omega (arith, e)), tt)).0
beside_same (b ∷ bs) at xs base p (inr e) =
    beside_same bs (at + 1) (set xs at b) base p (inr (omega (arith, e))) ∙ (set_same xs at b base (p ∷ []) (inr e, tt)).0

-- spans beside them stay
pub put_same : (bs : List ℕ) (at : ℕ) (xs : List ℕ) (base : ℕ) (ps : List Span) → Each (IsBeside at (length bs) base) ps → AreSame xs (put bs at xs) base ps
put_same bs at xs base ps e =
    each_then (IsBeside at (length bs) base) (IsSame xs (put bs at xs) base) (λ p beside. beside_same bs at xs base p beside) ps e

-- ---- numbers that are read back

word_small : (x : ℤ) → word x < 2 ^ 32
word_small (pos n) = omega arith
word_small (negsuc n) = omega arith

number_back : (k : Kind) (x : ℤ) → extend k (from_le_bytes (width_of k) (bytes_of_number k x)) ≡ cut k x
number_back Ubyte x = let e : word x % 256 % 2 ^ 8 ≡ word x % 2 ^ 8 = omega arith in ap pos e
number_back Sbyte x = let e : word x % 256 % 2 ^ 8 ≡ word x % 2 ^ 8 = omega arith in ap (cast_signed w8) e
number_back Uword x = let e : from_le_bytes w16 (to_le_bytes w16 (word x)) % 2 ^ 16 ≡ word x % 2 ^ 16 = omega arith in ap pos e
number_back Sword x = let e : from_le_bytes w16 (to_le_bytes w16 (word x)) % 2 ^ 16 ≡ word x % 2 ^ 16 = omega arith in ap (cast_signed w16) e
number_back Ulong x = ap (λ n. pos (n % 2 ^ 32)) (from_le_bytes-to_le_bytes_4 (word x) (word_small x))
number_back Slong x = ap (λ n. cast_signed w32 (n % 2 ^ 32)) (from_le_bytes-to_le_bytes_4 (word x) (word_small x))

pub number_size : (k : Kind) (x : ℤ) → length (bytes_of_number k x) ≡ leaf_size k
number_size Ubyte x = refl
number_size Sbyte x = refl
number_size Uword x = refl
number_size Sword x = refl
number_size Ulong x = refl
number_size Slong x = refl

-- a number that was stored reads as it, cut to its kind
pub number_stored : (k : Kind) (x : ℤ) (at : ℕ) (xs : List ℕ) → at + leaf_size k ≤ length xs → number_in k (drop at (put (bytes_of_number k x) at xs)) ≡ cut k x
number_stored k x at xs fits =
    let bs = bytes_of_number k x in
    ap (λ n. extend k (from_le_bytes (width_of k) (take n (drop at (put bs at xs))))) (sym (number_size k x))
    ∙ ap (λ cs. extend k (from_le_bytes (width_of k) cs)) (put_there bs at xs (omega (arith, fits, number_size k x)))
    ∙ number_back k x

-- and so does a row number
pub row_stored : (row at : ℕ) (xs : List ℕ) → row < 2 ^ 16 → at + 2 ≤ length xs → u16_at (put (to_le_bytes w16 row) at xs) at ≡ row
row_stored row at xs small fits =
    let bs = to_le_bytes w16 row in
    let back : u16_at bs 0 ≡ row = omega (arith, small) in
    u16_at-window (put bs at xs) at ∙ ap (λ window. u16_at window 0) (put_there bs at xs fits) ∙ back
