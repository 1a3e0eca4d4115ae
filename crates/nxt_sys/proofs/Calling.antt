-- The call that a number names.
use Rattle.std.proofs.Common.{◌≡◌, ℕ, Bool, true, false, cond, List, [], ◌∷◌, Some, refl, sym, ap, ◌∙◌}
use Rattle.std.specs.Prelude.{find, ◌==◌}
use Rattle.std.proofs.lemmas.Bool.{eqb-true}
use Rattle.nxt_types.specs.Calls.{all_calls, call_number, call_of}
use Rattle.nxt_types.specs.declared.calls.Call.{Call}

found_first : (b : Bool) (test : Call → Bool) (c d : Call) (cs : List Call) → test d ≡ b → cond b (Some d) (find test cs) ≡ Some c → (find test cs ≡ Some c → test c ≡ true) → test c ≡ true
found_first true test c d cs is e rest = let same : d ≡ c = cc in ap test (sym same) ∙ is
found_first false test c d cs is e rest = rest e

found : (test : Call → Bool) (c : Call) (cs : List Call) → find test cs ≡ Some c → test c ≡ true
found test c [] e = let f : ⊥ = cc in absurd f
found test c (d ∷ cs) e = found_first (test d) test c d cs refl e (found test c cs)

-- it is the call's own
pub number_is : (n : ℕ) (c : Call) → call_of n ≡ Some c → n ≡ call_number c
number_is n c e = sym (eqb-true (call_number c) n (found (λ d. call_number d == n) c all_calls e))
