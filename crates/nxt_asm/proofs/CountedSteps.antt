-- The footprint, counted step by step.
use Rattle.std.proofs.Common.{◌≡◌, ℕ, ◌+◌, ◌*◌, ◌<◌, All, List, [], ◌∷◌, map, length, take, slice_index_or, refl, sym, ap, ap₂, ◌∙◌}
use Rattle.std.specs.Prelude.{sum_by}
use Rattle.std.proofs.lemmas.List.Sums.{sum_by-cons, sum_by_more}
use Rattle.nxt_types.specs.Pool.{round4}
use Rattle.nxt_model.specs.TextProgram.{static_size, text_bytes, text_of, texts}
use Rattle.nxt_model.specs.Assembled.{all_shapes, arrays_in}
use Rattle.nxt_model.specs.declared.nbc.NbcProgram.{NbcProgram}
use Rattle.nxt_model.specs.declared.nbc.NbcStruct.{NbcStruct}
use Rattle.nxt_model.specs.declared.nbc.NbcVar.{NbcVar}
use Rattle.nxt_asm_parts.specs.Defaults.{StartFits, variable_of}
use Rattle.nxt_asm_rules.specs.AsmRules.{start_footprint}
use Rattle.nxt_asm_rules.specs.StartBytes.{start_bytes}
use Rattle.nxt_asm_rules.proofs.Laws.StartFootprint.{footprint_counted}

-- one text more
pub text_more : (ts : List (List ℕ)) (i : ℕ) (so_far one next : ℕ) → i < length ts → so_far ≡ sum_by (λ text. round4 (length text + 1)) (take i ts)
    → one ≡ round4 (length (slice_index_or ts i []) + 1) → next ≡ so_far + one → next ≡ sum_by (λ text. round4 (length text + 1)) (take (i + 1) ts)
text_more ts i so_far one next under before is joined = joined ∙ ap₂ (λ a b. a + b) before is ∙ sym (sum_by_more (λ text. round4 (length text + 1)) ts i [] under)

vars_bytes : (structs : List NbcStruct) (vs : List NbcVar) → sum_by (λ v. start_bytes (variable_of structs v)) vs ≡ sum_by start_bytes (map (variable_of structs) vs)
vars_bytes structs [] = refl
vars_bytes structs (v ∷ vs) =
    sum_by-cons (λ w. start_bytes (variable_of structs w)) v vs
    ∙ ap (λ n. start_bytes (variable_of structs v) + n) (vars_bytes structs vs)
    ∙ sym (sum_by-cons start_bytes (variable_of structs v) (map (variable_of structs) vs))

-- the static bytes, the rows and the lists
pub footprint_is : (p q : NbcProgram) (static_bytes arrays rounded more product rows declared others lists both : ℕ) (structs : List NbcStruct) (vars : List NbcVar) (ts : List (List ℕ))
    → q ≡ p → All (λ v. StartFits v.shape v.start) p.vars → static_bytes ≡ static_size (text_of q) → arrays ≡ sum_by arrays_in (all_shapes (text_of q))
    → ts ≡ texts (text_of q) → structs ≡ q.structs → vars ≡ q.vars → rounded ≡ round4 static_bytes → more ≡ arrays + 1 → product ≡ 10 * more → rows ≡ round4 product
    → declared ≡ sum_by (λ v. start_bytes (variable_of structs v)) vars → others ≡ sum_by (λ text. round4 (length text + 1)) ts → lists ≡ declared + others
    → both ≡ rounded + rows → both + lists ≡ start_footprint (text_of p)
footprint_is p q static_bytes arrays rounded more product rows declared others lists both structs vars ts seen starts static_is arrays_are texts_are structs_are vars_are first second third fourth fifth sixth seventh last =
    let one : rounded ≡ round4 (static_size (text_of q)) = first ∙ ap round4 static_is in
    let table : rows ≡ round4 (10 * (sum_by arrays_in (all_shapes (text_of q)) + 1)) =
    fourth ∙ ap round4 (third ∙ ap (λ n. 10 * n) (second ∙ ap (λ n. n + 1) arrays_are)) in
    let vars_is : declared ≡ sum_by start_bytes (text_of q).vars =
    fifth ∙ ap₂ (λ ss vs. sum_by (λ v. start_bytes (variable_of ss v)) vs) structs_are vars_are ∙ vars_bytes q.structs q.vars in
    let text_is : others ≡ text_bytes (text_of q) = sixth ∙ ap (sum_by (λ text. round4 (length text + 1))) texts_are in
    ap₂ (λ a b. a + b) (last ∙ ap₂ (λ a b. a + b) one table) (seventh ∙ ap₂ (λ a b. a + b) vars_is text_is)
    ∙ ap (λ r. counted r) seen
    ∙ sym (footprint_counted p starts)
  where
    counted : NbcProgram → ℕ
    counted r =
        round4 (static_size (text_of r)) + round4 (10 * (sum_by arrays_in (all_shapes (text_of r)) + 1))
        + (sum_by start_bytes (text_of r).vars + text_bytes (text_of r))
