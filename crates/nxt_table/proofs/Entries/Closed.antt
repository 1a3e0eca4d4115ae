-- A table that isn't open spells whole variables.
use Rattle.nxt_table.proofs.Entries.Spelled.{no_voids}
use Rattle.nxt_table.proofs.Entries.Spelled.{no_void}
use Rattle.std.proofs.Common.{◌≡◌, ℕ, zero, suc, ◌+◌, ◌-◌, ◌≤◌, List, [], ◌∷◌, ◌++◌, refl, sym, ap, ◌∙◌, subst, arith, append_assoc, append-nil, Bool, true, false, ◌&&◌, true≢false, Option, Some, None}
use Rattle.std.proofs.lemmas.Bool.{and_parts, and_from}
use Rattle.std.specs.Prelude.{nat_lt, ◌==◌, map, IsTrue, if◌then◌else◌, max}
use Rattle.std.proofs.lemmas.Bool.Decides.{nat_tests}
use Rattle.nxt_types.specs.declared.kind.Kind.{Kind}
use Rattle.nxt_types.specs.declared.kind.Kind.TheVariants.{Ubyte, Sbyte, Uword, Sword, Ulong, Slong}
use Rattle.nxt_types.specs.declared.shape.TocEntry.{TocEntry}
use Rattle.nxt_types.specs.Shapes.{Shape, Void, Number, Array, Cluster, Mutex, Members, no_members, member, count, code_of, outline, spelling, spellings, bare, bares, is_filled, are_filled}
use Rattle.nxt_table.specs.Inside.Items.{item, needs_behind, breaks_off, open_from}
use Rattle.nxt_table.proofs.Entries.Spelled.{suc_not_zero, inside, is_variable, are_variables, begin}

-- ---- a table that isn't open

-- outlines that spell n shapes inside a variable, and then variables
pub record Split (n : ℕ) (os : List (ℕ × ℕ)) : Type 0 where
  pub inner : Members
  pub variables : Members
  pub whole : os ≡ spellings inner ++ spellings variables
  pub counts : count inner ≡ n
  pub filled : IsTrue (are_filled inner)
  pub voids : IsTrue (no_voids inner)
  pub plain : bares inner ≡ inner
  pub filled_variables : IsTrue (are_filled variables)
  pub right : IsTrue (are_variables variables)
  pub plain_variables : bares variables ≡ variables

pub not_broken : (b : Bool) (x : Option ℕ) (w : ℕ) → (if b then Some w else x) ≡ None → (b ≡ false) × (x ≡ None)
not_broken true x w e = cc
not_broken false x w e = (refl, e)

-- a leaf before n shapes
pub with_leaf : (s : Shape) (o : ℕ × ℕ) (n : ℕ) (os : List (ℕ × ℕ)) → spelling s ≡ o ∷ [] → IsTrue (is_filled s) → IsTrue (no_void s) → bare s ≡ s →
    Split n os → Split (suc n) (o ∷ os)
with_leaf s o n os e f v p r =
    record {
      inner = member s r.inner;
      variables = r.variables;
      whole = ap (λ l. o ∷ l) r.whole ∙ ap (λ l. (l ++ spellings r.inner) ++ spellings r.variables) (sym e);
      counts = let c = r.counts in omega (arith, c);
      filled = and_from (is_filled s) (are_filled r.inner) f r.filled;
      voids = and_from (no_void s) (no_voids r.inner) v r.voids;
      plain = ap (λ q. member q (bares r.inner)) p ∙ ap (member s) r.plain;
      filled_variables = r.filled_variables;
      right = r.right;
      plain_variables = r.plain_variables;
    }

-- the first n of these members, and the others
abbrev pub first_members : ℕ → Members → Members
first_members zero ss = no_members
first_members (suc n) no_members = no_members
first_members (suc n) (member s ss) = member s (first_members n ss)

abbrev pub later_members : ℕ → Members → Members
later_members zero ss = ss
later_members (suc n) no_members = no_members
later_members (suc n) (member s ss) = later_members n ss

pub count_first : (n : ℕ) (ss : Members) → n ≤ count ss → count (first_members n ss) ≡ n
count_first zero ss h = refl
count_first (suc n) no_members h = absurd (omega (arith, h))
count_first (suc n) (member s ss) h = let e = count_first n ss (omega (arith, h)) in omega (arith, e)

pub count_later : (n : ℕ) (ss : Members) → count (later_members n ss) ≡ count ss - n
count_later zero ss = omega arith
count_later (suc n) no_members = omega arith
count_later (suc n) (member s ss) = let e = count_later n ss in omega (arith, e)

pub spelled_apart : (n : ℕ) (ss : Members) → spellings ss ≡ spellings (first_members n ss) ++ spellings (later_members n ss)
spelled_apart zero ss = refl
spelled_apart (suc n) no_members = refl
spelled_apart (suc n) (member s ss) =
    ap (λ l. spelling s ++ l) (spelled_apart n ss) ∙ sym (append_assoc (spelling s) (spellings (first_members n ss)) (spellings (later_members n ss)))

pub filled_apart : (n : ℕ) (ss : Members) → IsTrue (are_filled ss) → IsTrue (are_filled (first_members n ss)) × IsTrue (are_filled (later_members n ss))
filled_apart zero ss h = (refl, h)
filled_apart (suc n) no_members h = (refl, refl)
filled_apart (suc n) (member s ss) h =
    let g = and_parts (is_filled s) (are_filled ss) h in
    let r = filled_apart n ss g.1 in
    (and_from (is_filled s) (are_filled (first_members n ss)) g.0 r.0, r.1)

pub voids_apart : (n : ℕ) (ss : Members) → IsTrue (no_voids ss) → IsTrue (no_voids (first_members n ss)) × IsTrue (no_voids (later_members n ss))
voids_apart zero ss h = (refl, h)
voids_apart (suc n) no_members h = (refl, refl)
voids_apart (suc n) (member s ss) h =
    let g = and_parts (no_void s) (no_voids ss) h in
    let r = voids_apart n ss g.1 in
    (and_from (no_void s) (no_voids (first_members n ss)) g.0 r.0, r.1)

abbrev pub first_shape : Members → Shape
first_shape no_members = Void
first_shape (member s ss) = s

abbrev pub rest_of : Members → Members
rest_of no_members = no_members
rest_of (member s ss) = ss

pub plain_apart : (n : ℕ) (ss : Members) → bares ss ≡ ss → (bares (first_members n ss) ≡ first_members n ss) × (bares (later_members n ss) ≡ later_members n ss)
plain_apart zero ss e = (refl, e)
plain_apart (suc n) no_members e = (refl, refl)
plain_apart (suc n) (member s ss) e =
    let r = plain_apart n ss (ap rest_of e) in
    (ap (λ q. member q (bares (first_members n ss))) (ap first_shape e) ∙ ap (member s) r.0, r.1)

-- an array before n + 1 shapes
pub with_array : (n : ℕ) (os : List (ℕ × ℕ)) → Split (suc n) os → Split (suc n) ((7, 0) ∷ os)
with_array n os r = at r.inner refl
  where
    at : (ss : Members) → ss ≡ r.inner → Split (suc n) ((7, 0) ∷ os)
    at no_members e = absurd (let c = ap count e in let d = r.counts in omega (arith, c, d))
    at (member s ss) e =
        let f = and_parts (is_filled s) (are_filled ss) (subst (λ q. IsTrue (are_filled q)) (sym e) r.filled) in
        let v = and_parts (no_void s) (no_voids ss) (subst (λ q. IsTrue (no_voids q)) (sym e) r.voids) in
        let p = plain_apart 1 (member s ss) (ap bares e ∙ r.plain ∙ sym e) in
        record {
          inner = member (Array 0 s) ss;
          variables = r.variables;
          whole = ap (λ l. (7, 0) ∷ l) (r.whole ∙ ap (λ q. spellings q ++ spellings r.variables) (sym e));
          counts = ap count e ∙ r.counts;
          filled = and_from (is_filled s) (are_filled ss) f.0 f.1;
          voids = and_from (no_void s) (no_voids ss) v.0 v.1;
          plain = ap (λ q. member (Array 0 q) (bares ss)) (ap first_shape p.0) ∙ ap (member (Array 0 s)) p.1;
          filled_variables = r.filled_variables;
          right = r.right;
          plain_variables = r.plain_variables;
        }

-- a cluster of the first m of them
pub with_cluster : (m n : ℕ) (os : List (ℕ × ℕ)) → IsTrue (nat_lt 0 m) → Split (n + m) os → Split (suc n) ((8, m) ∷ os)
with_cluster m n os pos r =
    let c = r.counts in
    let ss = first_members m r.inner in
    let ts = later_members m r.inner in
    let cs : count ss ≡ m = count_first m r.inner (omega (arith, c)) in
    let ct = count_later m r.inner in
    let f = filled_apart m r.inner r.filled in
    let v = voids_apart m r.inner r.voids in
    let p = plain_apart m r.inner r.plain in
    record {
      inner = member (Cluster ss) ts;
      variables = r.variables;
      whole =
          ap (λ l. (8, m) ∷ l) (r.whole ∙ ap (λ l. l ++ spellings r.variables) (spelled_apart m r.inner))
          ∙ ap (λ k. (8, k) ∷ ((spellings ss ++ spellings ts) ++ spellings r.variables)) (sym cs);
      counts = omega (arith, ct, c);
      filled = and_from (nat_lt 0 (count ss) && are_filled ss) (are_filled ts) (and_from (nat_lt 0 (count ss)) (are_filled ss) (subst (λ k. IsTrue (nat_lt 0 k)) (sym cs) pos) f.0) f.1;
      voids = and_from (no_voids ss) (no_voids ts) v.0 v.1;
      plain = ap (λ q. member (Cluster q) (bares ts)) p.0 ∙ ap (member (Cluster ss)) p.1;
      filled_variables = r.filled_variables;
      right = r.right;
      plain_variables = r.plain_variables;
    }

-- a variable that is no void
pub variable_of : (s : Shape) → IsTrue (no_void s) → IsTrue (is_variable s)
variable_of Void h = refl
variable_of (Number k) h = refl
variable_of (Array n s) h = h
variable_of (Cluster ss) h = h
variable_of Mutex h = refl

-- one more variable
pub with_variable : (os : List (ℕ × ℕ)) → Split 1 os → Split 0 os
with_variable os r = at r.inner refl
  where
    at : (ss : Members) → ss ≡ r.inner → Split 0 os
    at no_members e = absurd (let c = ap count e in let d = r.counts in omega (arith, c, d))
    at (member s (member t ts)) e = absurd (let c = ap count e in let d = r.counts in omega (arith, c, d))
    at (member s no_members) e =
        let f = and_parts (is_filled s) true (subst (λ q. IsTrue (are_filled q)) (sym e) r.filled) in
        let v = and_parts (no_void s) true (subst (λ q. IsTrue (no_voids q)) (sym e) r.voids) in
        let p = ap first_shape (ap bares e ∙ r.plain ∙ sym e) in
        record {
          inner = no_members;
          variables = member s r.variables;
          whole = r.whole ∙ ap (λ q. spellings q ++ spellings r.variables) (sym e) ∙ ap (λ l. l ++ spellings r.variables) (append-nil (spelling s));
          counts = refl;
          filled = refl;
          voids = refl;
          plain = refl;
          filled_variables = and_from (is_filled s) (are_filled r.variables) f.0 r.filled_variables;
          right = and_from (is_variable s) (are_variables r.variables) (variable_of s v.0) r.right;
          plain_variables = ap (λ q. member q (bares r.variables)) p ∙ ap (member s) r.plain_variables;
        }

-- a void among the variables
pub with_void : (os : List (ℕ × ℕ)) → Split 0 os → Split 0 ((0, 0) ∷ os)
with_void os r = at r.inner refl
  where
    at : (ss : Members) → ss ≡ r.inner → Split 0 ((0, 0) ∷ os)
    at (member s ss) e = absurd (let c = ap count e in let d = r.counts in omega (arith, c, d))
    at no_members e =
        record {
          inner = no_members;
          variables = member Void r.variables;
          whole = ap (λ l. (0, 0) ∷ l) (r.whole ∙ ap (λ q. spellings q ++ spellings r.variables) (sym e));
          counts = refl;
          filled = refl;
          voids = refl;
          plain = refl;
          filled_variables = r.filled_variables;
          right = r.right;
          plain_variables = ap (member Void) r.plain_variables;
        }

-- what the outlines behind an item are, where nothing is open
abbrev pub Parsed : List (ℕ × ℕ) → Type 0
Parsed os = (n start i : ℕ) → open_from start n i os ≡ None → Split n os

pub leaf_before : (s : Shape) (o : ℕ × ℕ) (os : List (ℕ × ℕ)) (n : ℕ) → spelling s ≡ o ∷ [] → IsTrue (is_filled s) → IsTrue (no_void s) → bare s ≡ s →
    Split (suc n - 1) os → Split (suc n) (o ∷ os)
leaf_before s o os n e f v p r = let k : suc n - 1 ≡ n = omega arith in with_leaf s o n os e f v p (subst (λ m. Split m os) k r)

pub number_before : (k : Kind) (o : ℕ × ℕ) (os : List (ℕ × ℕ)) (n : ℕ) → (code_of k, 0) ≡ o → Split (suc n - 1) os → Split (suc n) (o ∷ os)
number_before k o os n e r = leaf_before (Number k) o os n (ap (λ q. q ∷ []) e) refl refl refl r

abbrev pub outline_of : ℕ → ℕ → ℕ × ℕ
outline_of code desc = (code, if code == 8 then desc else 0)

-- behind an entry inside a variable
pub inner_by : (code desc n : ℕ) (os : List (ℕ × ℕ)) → breaks_off (suc n) (item (outline_of code desc)) ≡ false →
    Split (needs_behind (suc n) (item (outline_of code desc))) os → Split (suc n) (outline_of code desc ∷ os)
inner_by zero desc n os b r = let h : nat_lt 0 (suc n) ≡ true = grind (arith, nat_tests) in absurd (true≢false (sym h ∙ b))
inner_by (suc zero) desc n os b r = number_before Ubyte _ os n refl r
inner_by (suc (suc zero)) desc n os b r = number_before Sbyte _ os n refl r
inner_by (suc (suc (suc zero))) desc n os b r = number_before Uword _ os n refl r
inner_by (suc (suc (suc (suc zero)))) desc n os b r = number_before Sword _ os n refl r
inner_by (suc (suc (suc (suc (suc zero))))) desc n os b r = number_before Ulong _ os n refl r
inner_by (suc (suc (suc (suc (suc (suc zero)))))) desc n os b r = number_before Slong _ os n refl r
inner_by (suc (suc (suc (suc (suc (suc (suc zero))))))) desc n os b r =
    let k : max (suc n) 1 ≡ suc n = omega arith in with_array n os (subst (λ m. Split m os) k r)
inner_by (suc (suc (suc (suc (suc (suc (suc (suc zero)))))))) desc n os b r =
    let k : suc n - 1 + desc ≡ n + desc = omega arith in
    let pos : nat_lt 0 desc ≡ true = grind (arith, nat_tests, b) in
    with_cluster desc n os pos (subst (λ m. Split m os) k r)
inner_by (suc (suc (suc (suc (suc (suc (suc (suc (suc zero))))))))) desc n os b r = leaf_before Mutex (9, 0) os n refl refl refl refl r
inner_by (suc (suc (suc (suc (suc (suc (suc (suc (suc (suc code)))))))))) desc n os b r = absurd (true≢false b)

pub inner_entry : (code desc : ℕ) (os : List (ℕ × ℕ)) → Parsed os → (n start i : ℕ) →
    open_from start (suc n) i (outline_of code desc ∷ os) ≡ None → Split (suc n) (outline_of code desc ∷ os)
inner_entry code desc os ih n start i e =
    let g = not_broken (breaks_off (suc n) (item (outline_of code desc))) _ start (sym (inside start n i (outline_of code desc) os) ∙ e) in
    inner_by code desc n os g.0 (ih (needs_behind (suc n) (item (outline_of code desc))) start (i + 1) g.1)

-- and at which a variable begins
pub first_entry : (code desc : ℕ) (os : List (ℕ × ℕ)) → Parsed os → (start i : ℕ) →
    open_from start 0 i (outline_of code desc ∷ os) ≡ None → Split 0 (outline_of code desc ∷ os)
first_entry zero desc os ih start i e = with_void os (ih 0 i (i + 1) e)
first_entry (suc code) desc os ih start i e =
    with_variable (outline_of (suc code) desc ∷ os) (inner_entry (suc code) desc os ih 0 i i (sym (begin start i (outline_of (suc code) desc) os (same code desc)) ∙ e))
  where
    same : (code desc : ℕ) → breaks_off 0 (item (outline_of (suc code) desc)) ≡ breaks_off 1 (item (outline_of (suc code) desc))
    same zero desc = refl
    same (suc zero) desc = refl
    same (suc (suc zero)) desc = refl
    same (suc (suc (suc zero))) desc = refl
    same (suc (suc (suc (suc zero)))) desc = refl
    same (suc (suc (suc (suc (suc zero))))) desc = refl
    same (suc (suc (suc (suc (suc (suc zero)))))) desc = refl
    same (suc (suc (suc (suc (suc (suc (suc zero))))))) desc = refl
    same (suc (suc (suc (suc (suc (suc (suc (suc zero)))))))) desc = refl
    same (suc (suc (suc (suc (suc (suc (suc (suc (suc code))))))))) desc = refl

pub parsed : (es : List TocEntry) → Parsed (map outline es)
parsed [] zero start i e =
    record {
      inner = no_members;
      variables = no_members;
      whole = refl;
      counts = refl;
      filled = refl;
      voids = refl;
      plain = refl;
      filled_variables = refl;
      right = refl;
      plain_variables = refl;
    }
parsed [] (suc n) start i e = let f = sym (ap (λ b. if b then None else Some start) (suc_not_zero n)) ∙ e in cc
parsed (x ∷ es) zero start i e = first_entry x.code x.desc (map outline es) (parsed es) start i e
parsed (x ∷ es) (suc n) start i e = inner_entry x.code x.desc (map outline es) (parsed es) n start i e
