-- One piece of a text after another.
use Rattle.std.proofs.Common.{◌≡◌, ℕ, List, [], ◌++◌, Option, ◌∙◌, Result, Ok, Err, refl, sym, ap, append_assoc, subst}
use Rattle.std.specs.Io.KnownBytes.{Appends}
use Rattle.std.specs.Result.{OnOk, OnErr}
use Rattle.nxt_edge.specs.Edge.{AppendsFront}
use Rattle.nxt_edge.proofs.Laws.{Appends-none, Appends-Appends, Appends-Front}
use Rattle.nxt_report.specs.Writing.{Wrote}

pub Wrote-start : (a : Option (List ℕ)) (whole : List ℕ) → Wrote a a whole whole
Wrote-start a whole = record { front = []; wrote = Appends-none a; split = refl }

-- more was gathered, and a rest of it is left
pub Wrote-then : (a b c : Option (List ℕ)) (whole left more rest : List ℕ) → Wrote a b whole left → Wrote b c (left ++ more) rest → Wrote a c (whole ++ more) rest
Wrote-then a b c whole left more rest w v = record {
  front = w.front ++ v.front;
  wrote = Appends-Appends a b c w.front v.front w.wrote v.wrote;
  split = append_assoc w.front v.front rest ∙ (ap (λ l. w.front ++ l) v.split ∙ (sym (append_assoc w.front left more) ∙ ap (λ l. l ++ more) w.split));
}

all_of : (a b : Option (List ℕ)) (whole left more : List ℕ) (w : Wrote a b whole left) → w.front ++ (left ++ more) ≡ whole ++ more
all_of a b whole left more w = sym (append_assoc w.front left more) ∙ ap (λ l. l ++ more) w.split

-- what was gathered was written, with more behind it
pub Wrote-last : (a b c : Option (List ℕ)) (whole left more : List ℕ) → Wrote a b whole left → Appends b c (left ++ more) → Appends a c (whole ++ more)
Wrote-last a b c whole left more w p = subst (Appends a c) (all_of a b whole left more w) (Appends-Appends a b c w.front (left ++ more) w.wrote p)

-- or a front of that
pub Wrote-failed : (a b c : Option (List ℕ)) (whole left more : List ℕ) → Wrote a b whole left → AppendsFront b c (left ++ more) → AppendsFront a c (whole ++ more)
Wrote-failed a b c whole left more w p = subst (AppendsFront a c) (all_of a b whole left more w) (Appends-Front a b c w.front (left ++ more) w.wrote p)

-- what was gathered was written
pub Wrote-all : (a b c : Option (List ℕ)) (whole left : List ℕ) → Wrote a b whole left → Appends b c left → Appends a c whole
Wrote-all a b c whole left w p = subst (Appends a c) w.split (Appends-Appends a b c w.front left w.wrote p)

-- or a front of it
pub Wrote-part : (a b c : Option (List ℕ)) (whole left : List ℕ) → Wrote a b whole left → AppendsFront b c left → AppendsFront a c whole
Wrote-part a b c whole left w p = subst (AppendsFront a c) w.split (Appends-Front a b c w.front left w.wrote p)

-- or nothing
pub Wrote-front : (a b : Option (List ℕ)) (whole left : List ℕ) → Wrote a b whole left → AppendsFront a b whole
Wrote-front a b whole left w = (w.front, (left, w.split), w.wrote)

-- ---- what follows of a result

pub on_ok : {T E A B : Type 0} (r : Result T E) → (A → B) → OnOk r A → OnOk r B
on_ok (Ok x) f h = f h
on_ok (Err e) f h = tt

pub on_err : {T E A B : Type 0} (r : Result T E) → (A → B) → OnErr r A → OnErr r B
on_err (Ok x) f h = tt
on_err (Err e) f h = f h

pub at_err : {T E A : Type 0} (r : Result T E) → A → OnErr r A
at_err (Ok x) h = tt
at_err (Err e) h = h

-- where nothing was written a front of any text was
pub Front-none : (a : Option (List ℕ)) (text : List ℕ) → AppendsFront a a text
Front-none a text = ([], (text, refl), Appends-none a)
