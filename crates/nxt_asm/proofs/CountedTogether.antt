-- What is found in a program's types and measures together.
use Rattle.std.proofs.Common.{◌≡◌, Option, ◌-◌, ℕ, List, map, sym, ap, ap₂, ◌∙◌, arith}
use Rattle.std.specs.Prelude.{option_map}
use Rattle.nxt_types.specs.Shapes.{Shape, cluster_of, leaf_bytes}
use Rattle.nxt_types.specs.Names.{size}
use Rattle.nxt_model.specs.Assembled.{all_shapes, arrays_in}
use Rattle.nxt_model.specs.TextProgram.{shape_by, struct_shapes, text_of}
use Rattle.nxt_model.specs.declared.nbc.NbcProgram.{NbcProgram}
use Rattle.nxt_model.specs.declared.nbc.NbcStruct.{NbcStruct}
use Rattle.nxt_model.specs.declared.nbc.NbcType.{NbcType}
use Rattle.nxt_asm_parts.specs.Elements.{first_large, large_in}
use Rattle.nxt_asm_parts.specs.Measures.{held, measure_of}
use Rattle.nxt_asm_parts.specs.declared.measure.Measure.{Measure}
use Rattle.nxt_asm_parts.proofs.Laws.LargeElements.{elements_listed}
use Rattle.nxt_asm_rules.specs.AsmRules.{large_element}
use Rattle.nxt_asm.specs.Drafts.{AreCounted}
use Rattle.nxt_asm_rules.proofs.Laws.Counts.{static_sum}
use Rattle.nxt_asm_rules.proofs.Laws.Sums.{arrays_among-members, sizes-members}

-- the shapes of these types are those of all variables and constants
pub shapes_seen_in : (p : NbcProgram) (structs : List NbcStruct) (types view : List NbcType) → structs ≡ p.structs
    → map (shape_by (struct_shapes p.structs)) types ≡ all_shapes (text_of p) → view ≡ types → map (shape_by (struct_shapes structs)) view ≡ all_shapes (text_of p)
shapes_seen_in p structs types view measured typed same =
    ap₂ (λ (ss : List NbcStruct) (ts : List NbcType). map (shape_by (struct_shapes ss)) ts) measured same ∙ typed

pub all_counted : (p : NbcProgram) (ss : List Shape) (whole : Measure) (entries rest bytes byte_count arrays : ℕ) → ss ≡ all_shapes (text_of p)
    → whole ≡ measure_of (cluster_of ss) → ((n : ℕ) → whole.entries ≡ held n → entries ≡ n) → rest ≡ entries - 1
    → ((s : Shape) → whole ≡ measure_of s → bytes ≡ held (leaf_bytes s)) → ((n : ℕ) → bytes ≡ held n → byte_count ≡ n)
    → ((n : ℕ) → whole.arrays ≡ held n → arrays ≡ n) → AreCounted p rest byte_count arrays
all_counted p ss whole entries rest bytes byte_count arrays are is exact_entries less sized exact_bytes exact_arrays =
    let all : List Shape = all_shapes (text_of p) in
    let one : Measure → ℕ = λ m. m.entries in
    let taken : whole ≡ measure_of (cluster_of all) = is ∙ ap (λ l. measure_of (cluster_of l)) are in
    let entry : entries ≡ size (cluster_of all) = exact_entries (size (cluster_of all)) (ap one taken) in
    record {
      entries_are = omega (arith, less, entry, sizes-members all);
      bytes_are = exact_bytes (leaf_bytes (cluster_of all)) (sized (cluster_of all) taken) ∙ static_sum (text_of p);
      arrays_are = exact_arrays (arrays_in (cluster_of all)) (ap (λ m. m.arrays) taken) ∙ arrays_among-members all;
    }

-- the first element that is too large, of those of all variables
pub large_is : (p q : NbcProgram) (ss : List Shape) (o : Option ℕ) → q ≡ p → ss ≡ all_shapes (text_of q) → o ≡ large_in (cluster_of ss)
    → o ≡ option_map held (large_element (text_of p))
large_is p q ss o seen are is =
    is
    ∙ ap (λ l. large_in (cluster_of l)) are
    ∙ ap (λ ns. option_map held (first_large ns)) (sym (elements_listed (all_shapes (text_of q))))
    ∙ ap (λ r. option_map held (large_element (text_of r))) seen
