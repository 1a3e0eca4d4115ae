-- What holds of the file of every assembled text: it is accepted, with the text's image and footprint.
use Rattle.std.proofs.Common.{◌≡◌, ℕ, List, sym, ap, subst}
use Rattle.nxt_types.specs.Refusals.{IsAccepted}
use Rattle.nxt_types.specs.Shapes.{Members, members}
use Rattle.nxt_model.specs.Assembled.{all_shapes, assembled}
use Rattle.nxt_model.specs.Image.{Image}
use Rattle.nxt_model.specs.SameRuns.{IsFaithful}
use Rattle.nxt_model.specs.TextProgram.{Text, text_of}
use Rattle.nxt_model.specs.declared.nbc.NbcProgram.{NbcProgram}
use Rattle.nxt_rxe.specs.Files.{file_of}
use Rattle.nxt_nbc.specs.Checked.{IsParsed, Spells}
use Rattle.nxt_asm_parts.specs.AssembledParts.{parts_of}
use Rattle.nxt_asm_rules.specs.AsmRules.{Broken, start_footprint}
use Rattle.nxt_asm_rules.proofs.Laws.Files.{file_is}
use Rattle.nxt_asm_laws_code.proofs.Laws.Accepted.{code_accepted}
use Rattle.nxt_asm_laws_layout.proofs.Laws.Accepted.{footprint_is, layout_accepted, rows_are, starts_as}
use Rattle.nxt_asm_laws_runs.proofs.Laws.{faithful}
use Rattle.nxt_asm_laws_runs.proofs.Spelled.{spelled_program}
use Rattle.nxt_tool.specs.Accepted.{BreaksNone, IsAcceptedAs, IsSoundFile}
use Rattle.nxt_tool.specs.Assembling.{IsAssembled}

abbrev with_rows : Image → ℕ → Image
with_rows i n = record i { rows = n }

module _ (text : List ℕ) (p : NbcProgram) (parsed : IsParsed text p) (kept : IsAccepted (Broken (text_of p))) where
  abbrev ss : Members
  ss = members (all_shapes (text_of p))

  breaks_none : BreaksNone (parts_of (text_of p)) ss
  breaks_none = record { layout = layout_accepted text p parsed kept; shapes = (starts_as text p parsed kept).shapes; code = code_accepted text p parsed kept }

  as_image : IsAcceptedAs (file_of (parts_of (text_of p))) (assembled (text_of p))
  as_image = (
    parts_of (text_of p),
    file_is text p parsed kept,
    record {
      shapes = ss;
      sound = breaks_none;
      vars = (assembled (text_of p)).values;
      starts = starts_as text p parsed kept;
      image_is = ap (with_rows (assembled (text_of p))) (sym (rows_are text p parsed kept));
    },
  )

  as_sound : IsSoundFile (file_of (parts_of (text_of p))) (start_footprint (text_of p))
  as_sound = (
    parts_of (text_of p),
    file_is text p parsed kept,
    record {
      shapes = ss;
      sound = breaks_none;
      vars = (assembled (text_of p)).values;
      starts = starts_as text p parsed kept;
      size_is = sym (footprint_is text p parsed kept);
    },
  )

-- ---- files

-- what holds of the program of each text that is assembled
by_program : (P : Text → List ℕ → Type 0) → ((text : List ℕ) (p : NbcProgram) → IsParsed text p → IsAccepted (Broken (text_of p)) → P (text_of p) (file_of (parts_of (text_of p))))
    → (text file line : List ℕ) (i : IsAssembled text file line) → P i.program file
by_program P h text file line i =
    let found = spelled_program text i.program i.spelled in
    let p : NbcProgram = found.0 in
    let same : text_of p ≡ i.program = found.1 in
    let parsed : IsParsed text p = subst (Spells text) (sym same) i.spelled in
    let kept : IsAccepted (Broken (text_of p)) = subst (λ t. IsAccepted (Broken t)) (sym same) i.kept in
    subst (P i.program) (sym i.file_is) (subst (λ t. P t (file_of (parts_of t))) same (h text p parsed kept))

-- the file of an assembled text is accepted, with the image that the text is assembled to
pub accepted : (text file line : List ℕ) (i : IsAssembled text file line) → IsAcceptedAs file (assembled i.program)
accepted = by_program (λ t file. IsAcceptedAs file (assembled t)) as_image

-- and with the footprint that is told of it
pub footprint_told : (text file line : List ℕ) (i : IsAssembled text file line) → IsSoundFile file (start_footprint i.program)
footprint_told = by_program (λ t file. IsSoundFile file (start_footprint t)) as_sound

-- this image has the text's lines and stops, whatever happens, and what it may tell the text may tell
pub runs_alike : (text file line : List ℕ) (i : IsAssembled text file line) → IsFaithful i.program
runs_alike = by_program (λ t file. IsFaithful t) faithful
