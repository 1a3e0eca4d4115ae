-- The parts of an assembled text are never refused, and their image is the text's.
use Rattle.std.proofs.Common.{◌≡◌, ℕ, List, ap, ap₂, subst, ◌∙◌}
use Rattle.nxt_types.specs.Refusals.{IsAccepted}
use Rattle.nxt_types.specs.Shapes.{Members, members}
use Rattle.nxt_code.specs.CodeRules as code_rules
use Rattle.nxt_model.specs.Assembled.{all_shapes, assembled}
use Rattle.nxt_model.specs.Image.{Image}
use Rattle.nxt_model.specs.TextProgram.{text_of}
use Rattle.nxt_model.specs.Values.{Value}
use Rattle.nxt_model.specs.declared.nbc.NbcProgram.{NbcProgram}
use Rattle.nxt_rxe.specs.declared.parts.Parts.{Parts}
use Rattle.nxt_rxe.specs.Files.{Fits}
use Rattle.nxt_layout.specs.Start.{image_of}
use Rattle.nxt_layout.proofs.Laws.OneStart.{one_shapes, one_start}
use Rattle.nxt_nbc.specs.Checked.{IsParsed}
use Rattle.nxt_asm_parts.specs.AssembledParts.{parts_of}
use Rattle.nxt_asm_rules.specs.AsmRules.{Broken}
use Rattle.nxt_asm_rules.proofs.Laws.Files.{file_is}
use Rattle.nxt_asm_laws_code.proofs.Laws.Accepted.{code_accepted}
use Rattle.nxt_asm_laws_layout.proofs.Laws.Accepted.{layout_accepted, rows_are, starts_as}
use Rattle.nxt_asm_laws_runs.proofs.Laws.{faithful}
use Rattle.nxt_tool.specs.Accepted.{IsRun, PartsCause, RefusesParts, code_in}
use Rattle.nxt_tool.specs.Assembling.{HasTextCause, IsTextImage}
use Rattle.nxt_tool.specs.declared.fault.AcceptFault.{AcceptFault}
use Rattle.nxt_tool.specs.declared.fault.AcceptFault.TheVariants.{Refused, NoMemory}
use Rattle.nxt_tool.specs.declared.fault.Refusal.{Refusal}
use Rattle.nxt_tool.specs.declared.fault.Refusal.TheVariants.{Sections, Layout, Code, Text, Assembler}

abbrev with_rows : Image → ℕ → Image
with_rows i n = record i { rows = n }

module _ (text : List ℕ) (p : NbcProgram) (parsed : IsParsed text p) (kept : IsAccepted (Broken (text_of p))) where
  abbrev own : Parts
  own = parts_of (text_of p)

  abbrev ss : Members
  ss = members (all_shapes (text_of p))

  one_image : (image : Image) → IsRun own image → image ≡ assembled (text_of p)
  one_image image run =
      let same = one_start own run.shapes ss run.vars (assembled (text_of p)).values run.starts (starts_as text p parsed kept) in
      run.image_is
      ∙ ap₂ (λ (xs : Members) (v : Value). image_of own xs v) same.0 same.1
      ∙ ap (with_rows (assembled (text_of p))) (rows_are text p parsed kept)

  never_refused : (r : Refusal) → RefusesParts own r → ⊥
  never_refused (Sections f) h = h
  never_refused (Text f) h = h
  never_refused (Assembler f) h = h
  never_refused (Layout f) h = layout_accepted text p parsed kept f h.broken
  never_refused (Code f) h =
      let same : h.1 ≡ ss = one_shapes own h.1 ss h.2 (starts_as text p parsed kept).shapes in
      code_accepted text p parsed kept f (subst (λ (xs : Members). code_rules.Broken (code_in own xs) f) same h.3.broken)

  -- the parts have as many bits as a file gives them
  pub parts_have_bits : Fits own
  parts_have_bits = (file_is text p parsed kept).fits

  pub text_image : (image : Image) → IsRun own image → IsTextImage text image
  text_image image run = record { program = text_of p; spelled = parsed; kept = kept; image_is = one_image image run; faithful = faithful text p parsed kept }

  pub text_cause : (f : AcceptFault) → PartsCause own f → HasTextCause text f
  text_cause (Refused r) h = absurd (never_refused r h)
  text_cause NoMemory h = tt
