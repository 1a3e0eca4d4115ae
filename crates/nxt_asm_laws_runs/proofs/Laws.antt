-- An assembled text runs as the text.
use Rattle.std.proofs.Common.{◌≡◌, ℕ, zero, suc, ◌<◌, ◌≤◌, List, [], ◌∷◌, ◌++◌, map, length, refl, sym, ap, subst, ◌∙◌, append_assoc, arith}
use Rattle.std.specs.Prelude.{slice_index_or, sum_by}
use Rattle.nxt_facts.proofs.Each.{Each}
use Rattle.nxt_types.specs.Names.{size}
use Rattle.nxt_types.specs.Refusals.{IsAccepted}
use Rattle.nxt_types.specs.Shapes.{Members, Number, Shape, Void, members}
use Rattle.nxt_types.specs.Statements.{Statement, statements}
use Rattle.nxt_types.specs.declared.kind.Kind.TheVariants.{Slong}
use Rattle.nxt_model.specs.declared.nbc.NbcBlock.{NbcBlock}
use Rattle.nxt_model.specs.declared.nbc.NbcProgram.{NbcProgram}
use Rattle.nxt_model.specs.declared.nbc.NbcStatement.{NbcStatement}
use Rattle.nxt_model.specs.Assembled.{all_shapes, assembled, code_from, records_from}
use Rattle.nxt_model.specs.Dump.{content_with}
use Rattle.nxt_model.specs.Image as image
use Rattle.nxt_model.specs.Image.{Image}
use Rattle.nxt_model.specs.Program.{State}
use Rattle.nxt_model.specs.Report.{content_of, text_content}
use Rattle.nxt_model.specs.SameRuns.{IsFaithful, RunAlike}
use Rattle.nxt_model.specs.TextProgram as text
use Rattle.nxt_model.specs.TextProgram.{Text, constants, declared, returns, shapes, text_of, text_shape, text_value, texts}
use Rattle.nxt_model.specs.Values.{Value, Num, elements, group_of}
use Rattle.nxt_model.proofs.Laws.Alike.{Extends, big, run_alike}
use Rattle.nxt_model.proofs.Laws.AlikeReports.{may_tell}
use Rattle.nxt_nbc.specs.Checked.{IsParsed}
use Rattle.nxt_layout.specs.Start.{image_of}
use Rattle.nxt_asm_parts.specs.AssembledParts.{parts_of}
use Rattle.nxt_asm_parts.specs.Sound.{IsSound}
use Rattle.nxt_asm_rules.specs.AsmRules.{Broken}
use Rattle.nxt_asm_laws.proofs.Laws.Texts.{sound}
use Rattle.nxt_asm_laws_code.specs.Kept.{IsKept}
use Rattle.nxt_asm_laws_code.specs.Placed.{placed_from}
use Rattle.nxt_asm_laws_code.specs.Suits.{IsSuited}
use Rattle.nxt_asm_laws_code.specs.There.{IsThere}
use Rattle.nxt_asm_laws_code.proofs.Laws.Accepted.{few_entries, near_jumps, spelled_kept}
use Rattle.nxt_asm_laws_code.proofs.Laws.Decoded.{statements-code_from}
use Rattle.nxt_asm_laws_code.proofs.Laws.OperandsSuit.{operands_suit}
use Rattle.nxt_asm_laws_code.proofs.Laws.OperandsThere.{operands_there}
use Rattle.nxt_asm_laws_layout.proofs.Laws.Accepted.{rows_are as rows_at_start_are, starts_as}
use Rattle.nxt_asm_laws_layout.proofs.Laws.Parts.{AreVariables, IsVariable}
use Rattle.nxt_asm_laws_layout.proofs.Laws.TableAccepted.{variables}
use Rattle.nxt_asm_laws_runs.specs.Runs.{RunsAs}
use Rattle.nxt_asm_laws_runs.proofs.Agreement.{constant_values, variable_count}
use Rattle.nxt_asm_laws_runs.proofs.AlikeCode.{AllAlike, IsAssembledBlock, blocks_alike, plans_same, same_at}
use Rattle.nxt_asm_laws_runs.proofs.AtStart.{fine_start, footprint_is, lists_are, rows_are, values_are, variables_are}
use Rattle.nxt_asm_laws_runs.proofs.Constants.{IsWhole, more}
use Rattle.nxt_asm_laws_runs.proofs.Numbers.{front_empty}

-- ---- images

abbrev with_rows : Image → ℕ → Image
with_rows i n = record i { rows = n }

-- ---- variables

variables_front : (xs ys : List Shape) → AreVariables (members (xs ++ ys)) → AreVariables (members xs)
variables_front [] ys h = tt
variables_front (x ∷ xs) ys h = (h.0, variables_front xs ys h.1)

variable_at : (xs : List Shape) (i : ℕ) → i < length xs → AreVariables (members xs) → IsVariable (slice_index_or xs i Void)
variable_at [] i lt h = absurd (omega (arith, lt))
variable_at (x ∷ xs) zero lt h = h.0
variable_at (x ∷ xs) (suc i) lt h = variable_at xs i (omega (arith, lt)) h.1

-- ---- blocks

known_blocks : (p : Text) (bs : List NbcBlock) → Each (λ (b : NbcBlock). Each (λ (s : NbcStatement). Each (IsThere p) s.args) b.body) bs → Each (λ (b : NbcBlock). Each IsSuited b.body) bs
    → Each (IsKept p) bs → Each (IsAssembledBlock p) bs
known_blocks p [] there suited kept = tt
known_blocks p (b ∷ bs) there suited kept = (record { there = there.0; suited = suited.0; kept = kept.0 }, known_blocks p bs there.1 suited.1 kept.1)

module _ (bytes : List ℕ) (p : NbcProgram) (parsed : IsParsed bytes p) (accepted : IsAccepted (Broken (text_of p))) where
  abbrev t : Text
  t = text_of p

  abbrev n : ℕ
  n = variable_count t

  abbrev cs : List Value
  cs = constant_values t

  abbrev placed : List (ℕ × Statement)
  placed = placed_from t 0 t.blocks

  is_sound : IsSound p
  is_sound = sound bytes p parsed

  few : sum_by size (all_shapes t) ≤ 49151
  few = few_entries t accepted

  decoded : statements (code_from t 0 t.blocks) ≡ placed
  decoded = statements-code_from t t.blocks is_sound.codable

  declared_variables : (i : ℕ) → i < length (declared t) → IsVariable (slice_index_or (declared t) i Void)
  declared_variables i lt =
      let numbers : List Shape = map (λ z. Number Slong) (constants t) in
      let others : List Shape = map (λ s. text_shape) (texts t) in
      variable_at (declared t) i lt
      (variables_front (declared t) (returns t) (variables_front (shapes t) numbers (variables_front (shapes t ++ numbers) others (variables bytes t parsed))))

  known : Each (IsAssembledBlock t) t.blocks
  known =
      known_blocks t t.blocks (operands_there bytes p parsed) (operands_suit bytes p parsed accepted)
      (spelled_kept bytes parsed.tokens.0 t parsed.accepted parsed.tokens.1 parsed.tokens.2 few).1

  code_alike : AllAlike n cs (text.program_of t).code (image.program_of (assembled t)).code
  code_alike =
      subst (λ c. AllAlike n cs (text.instructions_from t 0 t.blocks) (map (image.instruction (members (all_shapes t)) c) c)) (sym decoded)
      (blocks_alike t few declared_variables placed 0 0 [] t.blocks refl (front_empty t) known (near_jumps t accepted))

  extends : Extends (IsWhole n cs) (more n cs) (text.program_of t) (image.program_of (assembled t))
  extends = record {
    plans = ap (λ c. image.plans_from c (records_from 0 t.blocks) (assembled t).dependents) decoded
        ∙ plans_same t few declared_variables placed 0 0 [] t.blocks refl (front_empty t);
    variables = variables_are t;
    values = values_are t;
    fine = fine_start t;
    rows = rows_are p is_sound.starts;
    lists = lists_are t;
    footprint = footprint_is t;
    code = same_at n cs (text.program_of t).code (image.program_of (assembled t)).code code_alike;
  }

  -- a dump shows the same
  same_content : (st : State) → IsWhole n cs st.values → content_of (assembled t) (big (IsWhole n cs) (more n cs) st) ≡ text_content t st
  same_content st whole =
      ap (λ vs. content_with (assembled t) (group_of vs) st.rows) (sym (append_assoc (elements st.values) (map Num (constants t)) (map text_value (texts t))))

-- the image of an accepted text has the same lines and stops, whatever happens, and what it may tell the text may tell
pub faithful : (bytes : List ℕ) (p : NbcProgram) → IsParsed bytes p → IsAccepted (Broken (text_of p)) → IsFaithful (text_of p)
faithful bytes p parsed accepted =
    let t : Text = text_of p in
    let n : ℕ = variable_count t in
    let cs : List Value = constant_values t in
    let both = extends bytes p parsed accepted in
    record {
      runs = run_alike (IsWhole n cs) (more n cs) (text.program_of t) (image.program_of (assembled t)) both;
      tells = λ effort.
          may_tell (IsWhole n cs) (more n cs) (text.program_of t) (image.program_of (assembled t)) both effort (text_content t) (content_of (assembled t))
          (same_content bytes p parsed accepted);
    }

-- and so have the parts that it is assembled to
pub runs : (bytes : List ℕ) (p : NbcProgram) → IsParsed bytes p → IsAccepted (Broken (text_of p)) → RunsAs (text_of p) (parts_of (text_of p))
runs bytes p parsed accepted =
    let ss : Members = members (all_shapes (text_of p)) in
    let own : Image = assembled (text_of p) in
    let same : own ≡ image_of (parts_of (text_of p)) ss own.values = ap (with_rows own) (sym (rows_at_start_are bytes p parsed accepted)) in
    record {
      shapes = ss;
      values = own.values;
      starts = starts_as bytes p parsed accepted;
      alike = subst (λ i. RunAlike (text.program_of (text_of p)) (image.program_of i)) same (faithful bytes p parsed accepted).runs;
    }
