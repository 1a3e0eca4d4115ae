-- The number that a name stands for: that of the first constant with the name, or else that of the first system call.
use Rattle.std.proofs.Common.{◌≡◌, ℕ, Bool, true, false, List, [], ◌∷◌, ◌++◌, map, find, cond, bytes_eq, Option, Some, None, option_map, Bor, refl, sym, ap, ◌∙◌}
use Rattle.std.specs.Option.{option_or}
use Rattle.std.proofs.lemmas.List.Folds.{find-append}
use Rattle.nxt_types.specs.declared.calls.Call.{Call}
use Rattle.nxt_types.specs.Calls.{all_calls, call_name, call_number}
use Rattle.nxt_model.specs.Nbc.Header.{Constant, constants, constant_named, call_names}
use Rattle.nxt_nbc_names.specs.HeaderSeen.{constant_seen}

-- the first of a list that is seen by a function
pub find_seen : {X Y : Type 0} (h : X → Y) (p : Y → Bool) (xs : List X) → find p (map h xs) ≡ option_map h (find (λ x. p (h x)) xs)
find_seen h p [] = refl
find_seen h p (x ∷ xs) = ap (cond (p (h x)) (Some (h x))) (find_seen h p xs) ∙ by (p (h x)) (find (λ y. p (h y)) xs)
  where
    by : (b : Bool) (o : Option _) → cond b (Some (h x)) (option_map h o) ≡ option_map h (cond b (Some x) o)
    by true o = refl
    by false o = refl

module _ (own : List (Bor (List ℕ) × ℕ)) (name : List ℕ) (all : map constant_seen own ++ call_names ≡ constants) where
  abbrev is_named : Constant → Bool
  is_named c = bytes_eq c.0 name

  abbrev number : Constant → ℕ
  number c = c.1

  number_of : (o : Option (Bor (List ℕ) × ℕ)) (k : Option Call) → find (λ c. bytes_eq c.0.now name) own ≡ o → find (λ c. bytes_eq (call_name c) name) all_calls ≡ k
      → option_map number (option_or (option_map constant_seen o) (option_map (λ c. (call_name c, call_number c)) k)) ≡ constant_named name
  number_of o k e f =
      sym
      (ap (λ cs. option_map number (find is_named cs)) (sym all)
      ∙ ap (option_map number) (find-append is_named (map constant_seen own) call_names)
      ∙ ap (λ a. option_map number (option_or a (find is_named call_names))) (find_seen constant_seen is_named own ∙ ap (option_map constant_seen) e)
      ∙ ap (λ a. option_map number (option_or (option_map constant_seen o) a))
      (find_seen (λ c. (call_name c, call_number c)) is_named all_calls ∙ ap (option_map (λ c. (call_name c, call_number c))) f))

  pub of_own : (c : Bor (List ℕ) × ℕ) → Some c ≡ find (λ c. bytes_eq c.0.now name) own → Some c.1 ≡ constant_named name
  of_own c e = number_of (Some c) (find (λ c. bytes_eq (call_name c) name) all_calls) (sym e) refl

  pub of_call : (k : Call) → None ≡ find (λ c. bytes_eq c.0.now name) own → Some k ≡ find (λ c. bytes_eq (call_name c) name) all_calls → Some (call_number k) ≡ constant_named name
  of_call k e f = number_of None (Some k) (sym e) (sym f)

  pub of_none : None ≡ find (λ c. bytes_eq c.0.now name) own → None ≡ find (λ c. bytes_eq (call_name c) name) all_calls → None ≡ constant_named name
  of_none e f = number_of None None (sym e) (sym f)
