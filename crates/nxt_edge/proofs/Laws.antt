-- One step after another on bytes that may be known.
use Rattle.std.proofs.Common.{◌≡◌, ℕ, List, [], ◌++◌, Option, Some, None, append_assoc, refl, sym, ap, ◌∙◌, subst, take, drop, ◌+◌, ◌-◌, ◌<◌, length, length-append, arith}
use Rattle.std.specs.Prelude.{IfSome}
use Rattle.std.proofs.lemmas.Grind.{common_steps}
use Rattle.std.proofs.lemmas.List.{append-nil, take-append-drop, drop-drop}
use Rattle.std.proofs.Math.Seq.{take-add}
use Rattle.std.specs.Io.KnownBytes.{Keeps, Appends, Consumes}
use Rattle.nxt_edge.specs.Edge.{AppendsFront}

pub Appends-none : (a : Option (List ℕ)) → Appends a a []
Appends-none None = tt
Appends-none (Some xs) = sym (append-nil xs)

pub Appends-Keeps : (a b c : Option (List ℕ)) (x : List ℕ) → Appends a b x → Keeps b c → Appends a c x
Appends-Keeps None b c x p q = tt
Appends-Keeps (Some xs) None c x p q = absurd p
Appends-Keeps (Some xs) (Some ys) None x p q = absurd q
Appends-Keeps (Some xs) (Some ys) (Some zs) x p q = q ∙ p

pub Appends-Appends : (a b c : Option (List ℕ)) (x y : List ℕ) → Appends a b x → Appends b c y → Appends a c (x ++ y)
Appends-Appends None b c x y p q = tt
Appends-Appends (Some xs) None c x y p q = absurd p
Appends-Appends (Some xs) (Some ys) None x y p q = absurd q
Appends-Appends (Some xs) (Some ys) (Some zs) x y p q = q ∙ (ap (λ l. l ++ y) p ∙ append_assoc xs x y)

-- a front after a whole piece
pub Appends-Front : (a b c : Option (List ℕ)) (x y : List ℕ) → Appends a b x → AppendsFront b c y → AppendsFront a c (x ++ y)
Appends-Front a b c x y p q = (x ++ q.0, (q.1.0, append_assoc x q.0 q.1.0 ∙ ap (λ l. x ++ l) q.1.1), Appends-Appends a b c x q.0 p q.2)

-- a front of a front's whole
pub Front-more : (a b : Option (List ℕ)) (x y : List ℕ) → AppendsFront a b x → AppendsFront a b (x ++ y)
Front-more a b x y p = (p.0, (p.1.0 ++ y, sym (append_assoc p.0 p.1.0 y) ∙ ap (λ l. l ++ y) p.1.1), p.2)

pub Front-whole : (a b : Option (List ℕ)) (x : List ℕ) → Appends a b x → AppendsFront a b x
Front-whole a b x p = (x, ([], append-nil x), p)

pub Front-Keeps : (a b c : Option (List ℕ)) (x : List ℕ) → Appends a b x → Keeps b c → AppendsFront a c x
Front-Keeps a b c x p q = Front-whole a c x (Appends-Keeps a b c x p q)

pub Consumes-none : (a : Option (List ℕ)) → Consumes a a []
Consumes-none None = tt
Consumes-none (Some xs) = refl

pub Consumes-Consumes : (a b c : Option (List ℕ)) (x y : List ℕ) → Consumes a b x → Consumes b c y → Consumes a c (x ++ y)
Consumes-Consumes None b c x y p q = tt
Consumes-Consumes (Some xs) None c x y p q = absurd p
Consumes-Consumes (Some xs) (Some ys) None x y p q = absurd q
Consumes-Consumes (Some xs) (Some ys) (Some zs) x y p q = p ∙ (ap (λ l. x ++ l) q ∙ sym (append_assoc x y zs))

pub Consumes-Keeps : (a b c : Option (List ℕ)) (x : List ℕ) → Consumes a b x → Keeps b c → Consumes a c x
Consumes-Keeps None b c x p q = tt
Consumes-Keeps (Some xs) None c x p q = absurd p
Consumes-Keeps (Some xs) (Some ys) None x p q = absurd q
Consumes-Keeps (Some xs) (Some ys) (Some zs) x p q = p ∙ ap (λ l. x ++ l) (sym q)

-- more than so many bytes were taken
pub Consumes-longer : (a b : Option (List ℕ)) (n : ℕ) (x : List ℕ) → length x ≡ n + 1 → Consumes a b x → IfSome a (λ xs. n < length xs)
Consumes-longer None b n x e p = tt
Consumes-longer (Some xs) None n x e p = absurd p
Consumes-longer (Some xs) (Some ys) n x e p = omega (arith, ap length p, length-append x ys)

-- a front of a piece was written, and then nothing
pub Front-take : (a b c : Option (List ℕ)) (n : ℕ) (x : List ℕ) → Appends a b (take n x) → Keeps b c → AppendsFront a c x
Front-take a b c n x p q = (take n x, (drop n x, take-append-drop n x), Appends-Keeps a b c (take n x) p q)

-- a front of a piece was written, and then some of the rest
pub Appends-take : (a b c : Option (List ℕ)) (n m : ℕ) (x : List ℕ) → Appends a b (take n x) → Appends b c (take m (drop n x)) → Appends a c (take (n + m) x)
Appends-take a b c n m x p q = rw take-add (Appends-Appends a b c (take n x) (take m (drop n x)) p q)

-- a part of what is left was taken
pub drop_step : (n m : ℕ) (xs : List ℕ) → drop n xs ≡ take m (drop n xs) ++ drop (n + m) xs
drop_step n m xs = sym (take-append-drop m (drop n xs)) ∙ ap (λ l. take m (drop n xs) ++ l) (drop-drop m n xs)

-- what `&ys[n..]` is
pub rest_is : (ys xs : List ℕ) (n : ℕ) → ys ≡ xs → take (length ys - n) (drop n ys) ≡ drop n xs
rest_is ys xs n e = subst (λ (l : List ℕ). take (length ys - n) (drop n ys) ≡ drop n l) e (grind (arith, common_steps))
