-- Statements whose operands agree do the same.
use Rattle.std.proofs.Common.{◌≡◌, ℕ, Bool, true, false, List, ◌++◌, map, refl, sym, ap, ◌∙◌, ◌⊎◌, inl, inr}
use Rattle.std.specs.Prelude.{slice_index_or}
use Rattle.std.proofs.lemmas.Bool.{both_ways}
use Rattle.nxt_facts.proofs.Each.{Each, each_join, each_then}
use Rattle.nxt_types.specs.OperandRules.{is_destination}
use Rattle.nxt_types.specs.declared.instr.Op.{Op}
use Rattle.nxt_types.specs.declared.instr.Op.TheVariants as ops
use Rattle.nxt_types.specs.declared.kind.Cmp.{Cmp}
use Rattle.nxt_code.specs.CodeRules.{is_jump}
use Rattle.nxt_model.specs.Clumps.{Clumps, Plan}
use Rattle.nxt_model.specs.Devices.{Devices}
use Rattle.nxt_model.specs.Dump.{written_by}
use Rattle.nxt_model.specs.Means.{means, operand_at}
use Rattle.nxt_model.specs.Means.Effects.{Effect, Operand, Store}
use Rattle.nxt_model.specs.Program.{Instruction}
use Rattle.nxt_model.specs.Step.{caller_stores, rule}
use Rattle.nxt_model.specs.SystemCalls.{Clock}
use Rattle.nxt_model.specs.Values.{Value}
use Rattle.nxt_model.specs.Variables.{Absent, put_all, read}
use Rattle.nxt_model.proofs.Laws.Alike.{Same, effect_of}
use Rattle.nxt_asm_laws_runs.proofs.Constants.{AgreeAll, IsPlace, IsWhole, more, puts_same, reads_same, writes_same}
use Rattle.nxt_asm_laws_runs.proofs.Destinations.{IsStored, goes_on, store_there, stored_there}

-- a set of a constant is a mov
abbrev pub SameOp : Op → Op → Type 0
SameOp o p = (p ≡ o) ⊎ ((o ≡ ops.Set) × (p ≡ ops.Mov))

-- the operation knows a mutex by its number
abbrev pub has_mutex : Op → Bool
has_mutex ops.Acquire = true
has_mutex ops.Release = true
has_mutex _ = false

-- what two statements have alike
pub record AreAlike (n : ℕ) (cs : List Value) (i j : Instruction) : Type 0 where
  pub op : SameOp i.op j.op
  pub cmp : j.cmp ≡ i.cmp
  pub references : AgreeAll n cs i.references j.references
  pub places : (k : ℕ) → is_destination i.op k ≡ true → IsPlace (slice_index_or i.references k Absent)
  pub target : is_jump i.op ≡ true → j.target ≡ i.target
  pub mutex : has_mutex i.op ≡ true → j.mutex ≡ i.mutex

-- ---- operations

means_same : (o p : Op) (c : Cmp) (d : Devices) (t : Clock) (os : List Operand) → SameOp o p → means p c d t os ≡ means o c d t os
means_same o p c d t os (inl e) = ap (λ x. means x c d t os) e
means_same o p c d t os (inr e) = ap (λ x. means x c d t os) e.1 ∙ sym (ap (λ x. means x c d t os) e.0)

rule_same : (o : Op) (ps : List Plan) (clock h m n : ℕ) (os : List Operand) (cs : Clumps) → (has_mutex o ≡ true → n ≡ m) → rule o ps clock h n os cs ≡ rule o ps clock h m os cs
rule_same ops.Acquire ps clock h m n os cs same = ap (λ x. rule ops.Acquire ps clock h x os cs) (same refl)
rule_same ops.Release ps clock h m n os cs same = ap (λ x. rule ops.Release ps clock h x os cs) (same refl)
rule_same o ps clock h m n os cs same = refl

rules_same : (o p : Op) (ps : List Plan) (clock h m n : ℕ) (os : List Operand) (cs : Clumps) → SameOp o p → (has_mutex o ≡ true → n ≡ m)
    → rule p ps clock h n os cs ≡ rule o ps clock h m os cs
rules_same o p ps clock h m n os cs (inl e) same = ap (λ x. rule x ps clock h n os cs) e ∙ rule_same o ps clock h m n os cs same
rules_same o p ps clock h m n os cs (inr e) same = ap (λ x. rule x ps clock h n os cs) e.1 ∙ sym (ap (λ x. rule x ps clock h m os cs) e.0)

callers_same : (o p : Op) (h : ℕ) (os : List Operand) → SameOp o p → caller_stores p h os ≡ caller_stores o h os
callers_same o p h os (inl e) = ap (λ x. caller_stores x h os) e
callers_same o p h os (inr e) = ap (λ x. caller_stores x h os) e.1 ∙ sym (ap (λ x. caller_stores x h os) e.0)

-- a caller goes to a destination
caller_there : (o : Op) (h : ℕ) (os : List Operand) → Each (IsStored o) (caller_stores o h os)
caller_there ops.Subcall h os = store_there ops.Subcall 1 (operand_at os 1) _ refl
caller_there o h os = tt

-- ---- statements

module _ (n : ℕ) (cs : List Value) (i j : Instruction) (alike : AreAlike n cs i j) where
  in_places : (ss : List Store) → Each (IsStored i.op) ss → Each (λ (s : Store). IsPlace (slice_index_or i.references s.operand Absent)) ss
  in_places ss = each_then (IsStored i.op) (λ (s : Store). IsPlace (slice_index_or i.references s.operand Absent)) (λ s. alike.places s.operand) ss

  operands_same : (v : Value) → IsWhole n cs v → map (read (more n cs v)) j.references ≡ map (read v) i.references
  operands_same v whole = reads_same n cs i.references j.references v alike.references whole

  effect_same : (v : Value) → IsWhole n cs v → (d : Devices) (t : Clock) → effect_of j (more n cs v) d t ≡ effect_of i v d t
  effect_same v whole d t =
      ap (means j.op j.cmp d t) (operands_same v whole)
      ∙ ap (λ c. means j.op c d t (map (read v) i.references)) alike.cmp
      ∙ means_same i.op j.op i.cmp d t (map (read v) i.references) alike.op

  stores_same : (ss : List Store) → Each (IsStored i.op) ss → (v : Value) → IsWhole n cs v
      → (put_all j.references ss (more n cs v) ≡ more n cs (put_all i.references ss v)) × IsWhole n cs (put_all i.references ss v)
  stores_same ss there v whole = puts_same n cs i.references j.references ss v alike.references (in_places ss there) whole

  caller_same : (v w : Value) → IsWhole n cs v → IsWhole n cs w → (h : ℕ)
      → put_all j.references (caller_stores j.op h (map (read (more n cs v)) j.references)) (more n cs w) ≡ more n cs (put_all i.references (caller_stores i.op h (map (read v) i.references)) w)
  caller_same v w whole after h =
      let os : List Operand = map (read v) i.references in
      ap (λ xs. put_all j.references (caller_stores j.op h xs) (more n cs w)) (operands_same v whole)
      ∙ ap (λ ss. put_all j.references ss (more n cs w)) (callers_same i.op j.op h os alike.op)
      ∙ (stores_same (caller_stores i.op h os) (caller_there i.op h os) w after).0

  -- they write the same parts
  writing_same : (v w : Value) → IsWhole n cs v → IsWhole n cs w → (d : Devices) (t : Clock) (h : ℕ)
      → written_by j.references (more n cs v) (more n cs w) ((effect_of j (more n cs v) d t).stores ++ caller_stores j.op h (map (read (more n cs v)) j.references))
      ≡ written_by i.references v w ((effect_of i v d t).stores ++ caller_stores i.op h (map (read v) i.references))
  writing_same v w whole after d t h =
      let os : List Operand = map (read v) i.references in
      let own : List Store = (effect_of i v d t).stores in
      let callers : List Store = caller_stores i.op h os in
      let all : Each (IsStored i.op) (own ++ callers) = each_join (IsStored i.op) own callers (stored_there i.op i.cmp d t os) (caller_there i.op h os) in
      ap (λ (e : Effect). written_by j.references (more n cs v) (more n cs w) (e.stores ++ caller_stores j.op h (map (read (more n cs v)) j.references))) (effect_same v whole d t)
      ∙ ap (λ xs. written_by j.references (more n cs v) (more n cs w) (own ++ caller_stores j.op h xs)) (operands_same v whole)
      ∙ ap (λ ss. written_by j.references (more n cs v) (more n cs w) (own ++ ss)) (callers_same i.op j.op h os alike.op)
      ∙ writes_same n cs i.references j.references (own ++ callers) v w alike.references (in_places (own ++ callers) all) whole after

  target_same : (v : Value) → IsWhole n cs v → (d : Devices) (t : Clock) → (effect_of i v d t).jumps ≡ true → j.target ≡ i.target
  target_same v whole d t moved = by (is_jump i.op) refl
    where
      by : (b : Bool) → is_jump i.op ≡ b → j.target ≡ i.target
      by true e = alike.target e
      by false e = absurd (both_ways (effect_of i v d t).jumps (goes_on i.op i.cmp d t (map (read v) i.references) e) moved)

  -- they do the same
  pub alike_same : Same (IsWhole n cs) (more n cs) i j
  alike_same = record {
    effect = effect_same;
    target = target_same;
    stores = λ v whole d t. let e : Effect = effect_of i v d t in (stores_same e.stores (stored_there i.op i.cmp d t (map (read v) i.references)) v whole).0;
    keeps = λ v whole d t. let e : Effect = effect_of i v d t in (stores_same e.stores (stored_there i.op i.cmp d t (map (read v) i.references)) v whole).1;
    clumps = λ v whole ps clock h xs.
        ap (λ os. rule j.op ps clock h j.mutex os xs) (operands_same v whole) ∙ rules_same i.op j.op ps clock h i.mutex j.mutex (map (read v) i.references) xs alike.op alike.mutex;
    caller = caller_same;
    caller_keeps = λ v w whole after h.
        let os : List Operand = map (read v) i.references in (stores_same (caller_stores i.op h os) (caller_there i.op h os) w after).1;
    written = writing_same;
  }
