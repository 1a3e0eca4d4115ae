-- What is kept of shapes stays right with one answer more.
use Rattle.std.proofs.Common.{◌≡◌, ℕ, Bool, true, false, cond, Some, refl, sym, ap, ◌∙◌}
use Rattle.std.specs.declared.alloc.Global.{Global}
use Rattle.std.specs.declared.cmp.Ordering.{Ordering}
use Rattle.std.specs.declared.cmp.Ordering.TheVariants.{Less, Equal, Greater}
use Rattle.std.specs.declared.collections.BTreeMap.{BTreeMap}
use Rattle.std.specs.BTreeMap.{get}
use Rattle.std.specs.Ordering.{nat_cmp, is_eq, eq_by_cmp}
use Rattle.std.proofs.lemmas.Map.Lookups.{CmpEqualImpliesEq, exact_unsigned, exact_pairs}
use Rattle.nxt_code.specs.Inside.KnownShapes.{pair_cmp, AreAnswers}

equal_is : (o : Ordering) → is_eq o ≡ true → o ≡ Equal
equal_is Less e = let f : true ≡ false = sym e in cc
equal_is Equal e = refl
equal_is Greater e = let f : true ≡ false = sym e in cc

answers_more : {K : Type 0} (cmp : K → K → Ordering) → CmpEqualImpliesEq cmp → (answer : K → Bool) (old new : BTreeMap K Bool Global) (k : K) (b : Bool) → AreAnswers cmp answer old → b ≡ answer k → ((q : K) → get cmp new q ≡ cond (eq_by_cmp cmp k q) (Some b) (get cmp old q)) → AreAnswers cmp answer new
answers_more {K} cmp exact answer old new k b known right updates q x e = at (eq_by_cmp cmp k q) refl
  where
    at : (t : Bool) → eq_by_cmp cmp k q ≡ t → x ≡ answer q
    at true t =
        let one : Some b ≡ Some x = sym (ap (λ s. cond s (Some b) (get cmp old q)) t) ∙ sym (updates q) ∙ e in
        let same : b ≡ x = cc in
        sym same ∙ right ∙ ap answer (exact k q (equal_is (cmp k q) t))
    at false t = known q x (sym (ap (λ s. cond s (Some b) (get cmp old q)) t) ∙ sym (updates q) ∙ e)

pub pairs_more : (answer : ℕ × ℕ → Bool) (old new : BTreeMap (ℕ × ℕ) Bool Global) (k : ℕ × ℕ) (b : Bool) → AreAnswers pair_cmp answer old → b ≡ answer k → ((q : ℕ × ℕ) → get pair_cmp new q ≡ cond (eq_by_cmp pair_cmp k q) (Some b) (get pair_cmp old q)) → AreAnswers pair_cmp answer new
pairs_more = answers_more pair_cmp (exact_pairs nat_cmp nat_cmp exact_unsigned exact_unsigned)

pub words_more : (answer : ℕ → Bool) (old new : BTreeMap ℕ Bool Global) (k : ℕ) (b : Bool) → AreAnswers nat_cmp answer old → b ≡ answer k → ((q : ℕ) → get nat_cmp new q ≡ cond (eq_by_cmp nat_cmp k q) (Some b) (get nat_cmp old q)) → AreAnswers nat_cmp answer new
words_more = answers_more nat_cmp exact_unsigned
