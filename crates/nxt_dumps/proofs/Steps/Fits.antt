-- What an instruction that is fit stores.
use Rattle.std.proofs.Common.{◌≡◌, ℕ, zero, suc, ◌⊎◌, inl, inr, true, List, [], ◌∷◌, map, get_or, refl, sym, ap, ◌∙◌, subst}
use Rattle.std.specs.Prelude.{pos}
use Rattle.std.specs.List.{list_all}
use Rattle.nxt_facts.proofs.Each.{Each, each_then}
use Rattle.nxt_types.specs.Shapes.{Shape, Void, Number, Array, Cluster, Mutex, Members}
use Rattle.nxt_types.specs.declared.instr.Op.{Op}
use Rattle.nxt_types.specs.declared.instr.Op.TheVariants as ops
use Rattle.nxt_model.specs.Values.{Value, Num, is_of, stored}
use Rattle.nxt_model.specs.Means.Effects.{Operand, Given, Immediate, Jump, Left, Store, store, shape_of}
use Rattle.nxt_model.specs.Means.{operand_at}
use Rattle.nxt_model.specs.Variables.{Reference, PartOf, Constant, Plain, Target, Absent, read, put_all}
use Rattle.nxt_model.specs.Program.{Instruction}
use Rattle.nxt_model.specs.Dump.{shape_under, written_by}
use Rattle.nxt_model.specs.Step.{caller_stores}
use Rattle.nxt_dumps.specs.Runnable.{EntersNoList, IsNamed, IsArray, IsNoArray, HasNoList, IsFit}
use Rattle.nxt_dumps.proofs.Lengths.Compared.{SameLists}
use Rattle.nxt_dumps.proofs.Lengths.Parts.{enters_more, under_append}
use Rattle.nxt_dumps.proofs.Steps.Meant.{IsMeant, AreMeant, caller_meant}
use Rattle.nxt_dumps.proofs.Steps.Stores.{IsPut, ArePut, ref_of, quiet_test, quiet_stores}

-- ---- operands

operand_is : (vars : Value) (rs : List Reference) (k : ℕ) → operand_at (map (read vars) rs) k ≡ read vars (get_or rs k Absent)
operand_is vars [] k = refl
operand_is vars (r ∷ rs) zero = refl
operand_is vars (r ∷ rs) (suc k) = operand_is vars rs k

named_at : (own : Members) (rs : List Reference) (k : ℕ) → Each (IsNamed own) rs → IsNamed own (get_or rs k Absent)
named_at own [] k e = tt
named_at own (r ∷ rs) zero e = e.0
named_at own (r ∷ rs) (suc k) e = named_at own rs k e.1

-- ---- stores

one_field : (s : Shape) (k : ℕ) → (IsArray s → ⊥) → EntersNoList s (k ∷ [])
one_field Void k h = tt
one_field (Number n) k h = tt
one_field (Array stride s) k h = h tt
one_field (Cluster ss) k h = tt
one_field Mutex k h = tt

-- where a store of a whole part, or of a field of one that is no list, goes to
enters_there : (s : Shape) (path : List ℕ) → (path ≡ []) ⊎ ((IsArray s → ⊥) × (k : ℕ) × (path ≡ k ∷ [])) → EntersNoList s path
enters_there s path (inl e) = subst (EntersNoList s) (sym e) tt
enters_there s path (inr e) = subst (EntersNoList s) (sym e.2) (one_field s e.1 e.0)

put_by : (own : Members) (vars : Value) (r : Reference) (path : List ℕ) (v : Value) → IsNamed own r → is_of (shape_under (shape_of (read vars r)) path) v ≡ true
    → (path ≡ []) ⊎ (IsNoArray r × (k : ℕ) × (path ≡ k ∷ [])) → IsPut own r path v
put_by own vars (PartOf n) path v named of way =
    let under = under_append (Cluster own) n.path path ∙ ap (λ s. shape_under s path) named.1 in (
      enters_more (Cluster own) n.path path named.0 (subst (λ s. EntersNoList s path) (sym named.1) (enters_there n.shape path way)),
      under,
      of,
    )
put_by own vars (Constant s w) path v named of way = tt
put_by own vars (Plain n) path v named of way = tt
put_by own vars Target path v named of way = tt
put_by own vars Absent path v named of way = tt

store_put : (own : Members) (vars : Value) (i : Instruction) → IsFit own i → (x : Store) → IsMeant (map (read vars) i.references) i.op x → IsPut own (ref_of i.references x) x.path x.value
store_put own vars i fit x m =
    let r = ref_of i.references x in
    put_by own vars r x.path x.value (named_at own i.references x.operand fit.named)
    (subst (λ o. is_of (shape_under (shape_of o) x.path) x.value ≡ true) (operand_is vars i.references x.operand) m.of)
    (elim m.way [
      | inl whole ↦ inl whole
      | inr field ↦ inr (subst (λ k. IsNoArray (get_or i.references k Absent)) (sym field.1) (fit.fields field.0), field.2, field.3)
    ])

-- so all of them go to parts in no list
pub stores_put : (own : Members) (vars : Value) (i : Instruction) → IsFit own i → (xs : List Store) → AreMeant (map (read vars) i.references) i.op xs → ArePut own i.references xs
stores_put own vars i fit xs m = each_then (IsMeant (map (read vars) i.references) i.op) (λ x. IsPut own (ref_of i.references x) x.path x.value) (store_put own vars i fit) xs m

-- ---- a subroutine's caller

quiet_ref : (r : Reference) (rs : List Reference) (k : ℕ) (v before after : Value) → get_or rs k Absent ≡ r → HasNoList r → list_all quiet_test (written_by rs before after (record { operand = k; path = []; value = v } ∷ [])) ≡ true
quiet_ref (PartOf n) rs k v before after is none = rw (is, none) refl
quiet_ref (Constant s w) rs k v before after is none = rw is refl
quiet_ref (Plain n) rs k v before after is none = rw is refl
quiet_ref Target rs k v before after is none = rw is refl
quiet_ref Absent rs k v before after is none = rw is refl

quiet_store : (o : Operand) (rs : List Reference) (k : ℕ) (v before after : Value) → HasNoList (get_or rs k Absent) → list_all quiet_test (written_by rs before after (store k o v)) ≡ true
quiet_store (Given s old) rs k v before after none = quiet_ref (get_or rs k Absent) rs k (stored s v) before after refl none
quiet_store (Immediate n) rs k v before after none = refl
quiet_store Jump rs k v before after none = refl
quiet_store Left rs k v before after none = refl

quiet_caller : (own : Members) (op : Op) (h : ℕ) (os : List Operand) (rs : List Reference) (before after : Value) → (op ≡ ops.Subcall → HasNoList (get_or rs 1 Absent)) → list_all quiet_test (written_by rs before after (caller_stores op h os)) ≡ true
quiet_caller own ops.Subcall h os rs before after none = quiet_store (operand_at os 1) rs 1 (Num (pos h)) before after (none refl)
quiet_caller own _ h os rs before after none = refl

-- leaves the lists
pub caller_same : (own : Members) (vars old : Value) (i : Instruction) (h : ℕ) → IsFit own i →
    SameLists (Cluster own) vars (put_all i.references (caller_stores i.op h (map (read old) i.references)) vars)
caller_same own vars old i h fit =
    let os = map (read old) i.references in
    let xs = caller_stores i.op h os in
    let after = put_all i.references xs vars in
    quiet_stores own i.references xs vars after (stores_put own old i fit xs (caller_meant i.op h os)) (quiet_caller own i.op h os i.references vars after fit.caller)
