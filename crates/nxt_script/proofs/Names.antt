-- A record's name, and the form of that name.
use Rattle.std.proofs.Common.{◌≡◌, ℕ, List, Option, None, Some, true, false, refl, sym, subst, drop}
use Rattle.std.specs.Prelude.{find, bytes_eq, codes}
use Rattle.std.proofs.lemmas.Bool.Decides.{same_from_decides, Decides-like}
use Rattle.std.proofs.lemmas.Slice.Eq.{bytes_eq-Decides}
use Rattle.csv.specs.Records.{field_at}
use Rattle.nxt_model.specs.declared.event.ScriptRow.{ScriptRow}
use Rattle.nxt_script.specs.RowForms.{forms, row_by, row_of, telegram_by}
use Rattle.nxt_script.proofs.Fields.{field_some, field_none}

either_way : (a b : List ℕ) → bytes_eq a b ≡ bytes_eq b a
either_way a b = same_from_decides (bytes_eq a b) (bytes_eq b a) (bytes_eq-Decides a b) (Decides-like (bytes_eq b a) (λ e. sym e) (λ e. sym e) (bytes_eq-Decides b a))

-- the row of the form of this name
abbrev pub row_named : List ℕ → List (List ℕ) → Option ScriptRow
row_named name fs = row_by (find (λ f. bytes_eq f.name name) forms) fs

pub named : (name text : List ℕ) (fs : List (List ℕ)) (r : Option ScriptRow) → bytes_eq name text ≡ true → r ≡ row_named text fs → r ≡ row_named name fs
named name text fs r e h = subst (λ (n : List ℕ). r ≡ row_named n fs) (sym ((bytes_eq-Decides name text).0 e)) h

other : (name text : List ℕ) → bytes_eq name text ≡ false → bytes_eq text name ≡ false
other name text e = rw (either_way text name) e

pub no_form : (name : List ℕ) (fs : List (List ℕ))
    → bytes_eq name (codes "run") ≡ false
    → bytes_eq name (codes "tick") ≡ false
    → bytes_eq name (codes "reading") ≡ false
    → bytes_eq name (codes "tacho") ≡ false
    → bytes_eq name (codes "button") ≡ false
    → bytes_eq name (codes "battery") ≡ false
    → bytes_eq name (codes "random") ≡ false
    → bytes_eq name (codes "compact") ≡ false
    → bytes_eq name (codes "dump") ≡ false
    → None ≡ row_named name fs
no_form name fs e0 e1 e2 e3 e4 e5 e6 e7 e8 =
    rw (other name (codes "run") e0, other name (codes "tick") e1, other name (codes "reading") e2, other name (codes "tacho") e3, other name (codes "button") e4, other name (codes "battery") e5, other name (codes "random") e6, other name (codes "compact") e7, other name (codes "dump") e8) refl

-- ---- the row of a record

pub row_of-none : (fs : List (List ℕ)) → field_at fs 0 ≡ None → row_of fs ≡ None
row_of-none fs e = rw (field_none fs 0 e) refl

pub row_of-telegram : (fs : List (List ℕ)) (name : List ℕ) → field_at fs 0 ≡ Some name → bytes_eq name (codes "telegram") ≡ true → row_of fs ≡ telegram_by (drop 1 fs)
row_of-telegram fs name e is = rw (field_some fs 0 name e) (rw is refl)

pub row_of-numbers : (fs : List (List ℕ)) (name : List ℕ) → field_at fs 0 ≡ Some name → bytes_eq name (codes "telegram") ≡ false → row_of fs ≡ row_named name (drop 1 fs)
row_of-numbers fs name e is = rw (field_some fs 0 name e) (rw is refl)
