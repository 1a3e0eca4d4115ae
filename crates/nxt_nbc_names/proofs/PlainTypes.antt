-- The type that a name stands for without a struct: that of the first type of numbers with the name, or else a mutex.
use Rattle.std.proofs.Common.{◌≡◌, ℕ, Bool, true, false, List, [], ◌∷◌, ◌++◌, map, find, cond, codes, bytes_eq, Option, Some, None, option_map, Bor, refl, sym, ap, ◌∙◌}
use Rattle.std.specs.Option.{option_or}
use Rattle.std.proofs.lemmas.List.Folds.{find-append}
use Rattle.std.proofs.lemmas.Slice.Eq.{bytes_eq-Decides}
use Rattle.nxt_types.specs.declared.kind.Kind.{Kind}
use Rattle.nxt_model.specs.declared.nbc.NbcBase.{NbcBase}
use Rattle.nxt_model.specs.declared.nbc.NbcBase.TheVariants.{Number, Mutex}
use Rattle.nxt_model.specs.Nbc.Types.{plain_type, plain_types}
use Rattle.nxt_nbc_names.specs.StructsSeen.{number_seen}
use Rattle.nxt_nbc_names.proofs.Constants.{find_seen}

-- the test of two names is the same from either side
turned : (a b : List ℕ) → bytes_eq a b ≡ bytes_eq b a
turned a b = by (bytes_eq a b) (bytes_eq b a) refl refl
  where
    by : (p q : Bool) → bytes_eq a b ≡ p → bytes_eq b a ≡ q → bytes_eq a b ≡ bytes_eq b a
    by true q e f = e ∙ sym ((bytes_eq-Decides b a).1 (sym ((bytes_eq-Decides a b).0 e)))
    by false true e f = (bytes_eq-Decides a b).1 (sym ((bytes_eq-Decides b a).0 f)) ∙ sym f
    by false false e f = e ∙ sym f

module _ (numbers : List (Bor (List ℕ) × Kind)) (name : List ℕ) (all : map number_seen numbers ++ (codes "mutex", Mutex) ∷ [] ≡ plain_types) where
  abbrev is_named : List ℕ × NbcBase → Bool
  is_named t = bytes_eq t.0 name

  abbrev base : List ℕ × NbcBase → NbcBase
  base t = t.1

  type_of : (o : Option (Bor (List ℕ) × Kind)) (b : Bool) → o ≡ find (λ t. bytes_eq t.0.now name) numbers → bytes_eq (codes "mutex") name ≡ b
      → option_map base (option_or (option_map number_seen o) (cond b (Some (codes "mutex", Mutex)) None)) ≡ plain_type name
  type_of o b e f =
      sym
      (ap (λ ts. option_map base (find is_named ts)) (sym all)
      ∙ ap (option_map base) (find-append is_named (map number_seen numbers) ((codes "mutex", Mutex) ∷ []))
      ∙ ap (λ a. option_map base (option_or a (find is_named ((codes "mutex", Mutex) ∷ [])))) (find_seen number_seen is_named numbers ∙ ap (option_map number_seen) (sym e))
      ∙ ap (λ c. option_map base (option_or (option_map number_seen o) (cond c (Some (codes "mutex", Mutex)) None))) f)

  pub of_number : (t : Bor (List ℕ) × Kind) → Some t ≡ find (λ t. bytes_eq t.0.now name) numbers → Some (Number t.1) ≡ plain_type name
  of_number t e = type_of (Some t) (bytes_eq (codes "mutex") name) e refl

  pub of_other : (b : Bool) (text : List ℕ) → None ≡ find (λ t. bytes_eq t.0.now name) numbers → text ≡ codes "mutex" → b ≡ bytes_eq name text
      → option_map base (cond b (Some (codes "mutex", Mutex)) None) ≡ plain_type name
  of_other b text e same test = type_of None b e (turned (codes "mutex") name ∙ sym (test ∙ ap (bytes_eq name) same))
