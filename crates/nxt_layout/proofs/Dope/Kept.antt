-- What is kept of rows stays right with one more.
use Rattle.std.proofs.Common.{◌≡◌, Bool, true, false, cond, Some, refl, sym, ap, ◌∙◌, subst, flat_map}
use Rattle.std.specs.declared.alloc.Global.{Global}
use Rattle.std.specs.declared.cmp.Ordering.{Ordering}
use Rattle.std.specs.declared.cmp.Ordering.TheVariants.{Less, Equal, Greater}
use Rattle.std.specs.declared.collections.BTreeMap.{BTreeMap}
use Rattle.std.specs.BTreeMap.{get}
use Rattle.std.specs.Cmp.Lexicographic.{slice_cmp}
use Rattle.std.specs.FinMap.{nat_cmp-IsAntisymmetric, slice_cmp-IsAntisymmetric}
use Rattle.std.specs.Ordering.{nat_cmp, ordering_then, is_eq, eq_by_cmp}
use Rattle.std.specs.Rc.{rc_slice_items}
use Rattle.nxt_layout.specs.declared.known.Found.{Found}
use Rattle.nxt_layout.specs.declared.known.Known.{Known}
use Rattle.nxt_layout.specs.Rows.{Ground, elements_of}
use Rattle.nxt_layout.specs.Inside.Known.{Key, key_cmp, IsFoundIn, IsKnown}

equal_is : (o : Ordering) → is_eq o ≡ true → o ≡ Equal
equal_is Less e = let f : true ≡ false = sym e in cc
equal_is Equal e = refl
equal_is Greater e = let f : true ≡ false = sym e in cc

both_equal : (a b : Ordering) → ordering_then a b ≡ Equal → (a ≡ Equal) × (b ≡ Equal)
both_equal Less b e = cc
both_equal Equal b e = (refl, e)
both_equal Greater b e = cc

-- what is found for a key is found for an equal one
key_found : (g : Ground) (k q : Key) (f : Found) → key_cmp k q ≡ Equal → IsFoundIn g k.0 (flat_map (elements_of g) (rc_slice_items k.1)) f → IsFoundIn g q.0 (flat_map (elements_of g) (rc_slice_items q.1)) f
key_found g k q f e found =
    let both = both_equal (nat_cmp k.0 q.0) (slice_cmp nat_cmp (rc_slice_items k.1) (rc_slice_items q.1)) e in
    let rows : rc_slice_items k.1 ≡ rc_slice_items q.1 = slice_cmp-IsAntisymmetric nat_cmp-IsAntisymmetric (rc_slice_items k.1) (rc_slice_items q.1) both.1 in
    subst
    (λ place. IsFoundIn g place (flat_map (elements_of g) (rc_slice_items q.1)) f)
    (nat_cmp-IsAntisymmetric k.0 q.0 both.0)
    (subst (λ rs. IsFoundIn g k.0 (flat_map (elements_of g) rs) f) rows found)

-- with what is found for one key more
pub known_more : (g : Ground) (old : Known) (new : BTreeMap Key Found Global) (k : Key) (f : Found) → IsKnown g old → IsFoundIn g k.0 (flat_map (elements_of g) (rc_slice_items k.1)) f → ((q : Key) → get key_cmp new q ≡ cond (eq_by_cmp key_cmp k q) (Some f) (get key_cmp old.found q)) → (q : Key) (x : Found) → get key_cmp new q ≡ Some x → IsFoundIn g q.0 (flat_map (elements_of g) (rc_slice_items q.1)) x
known_more g old new k f known found updates q x e = at (eq_by_cmp key_cmp k q) refl
  where
    at : (b : Bool) → eq_by_cmp key_cmp k q ≡ b → IsFoundIn g q.0 (flat_map (elements_of g) (rc_slice_items q.1)) x
    at true t =
        let one : Some f ≡ Some x = sym (ap (λ b. cond b (Some f) (get key_cmp old.found q)) t) ∙ sym (updates q) ∙ e in
        let same : f ≡ x = cc in
        subst (IsFoundIn g q.0 (flat_map (elements_of g) (rc_slice_items q.1))) same (key_found g k q f (equal_is (key_cmp k q) t) found)
    at false t = known q x (sym (ap (λ b. cond b (Some f) (get key_cmp old.found q)) t) ∙ sym (updates q) ∙ e)
