-- What is due to a text that is assembled.
use Rattle.std.proofs.Common.{◌≡◌, ℕ, List, [], Option, Some, Bool, true, false, length, refl, inl, inr}
use Rattle.std.specs.Prelude.{MatchBool, nat_lt}
use Rattle.nxt_edge.specs.declared.read_write.ReadAllFault.{ReadAllFault}
use Rattle.nxt_edge.specs.declared.read_write.ReadAllFault.TheVariants.{Failed, TooLarge, NoMemory}
use Rattle.nxt_edge.proofs.Laws.{Appends-none}
use Rattle.nxt_model.specs.Nbc.NbcRules as text_rules
use Rattle.nxt_model.specs.TextProgram.{Text}
use Rattle.nxt_rxe.specs.Files.{file_of}
use Rattle.nxt_nbc_lines.specs.declared.fault.NbcFault.{NbcFault}
use Rattle.nxt_nbc_lines.specs.declared.fault.NbcFault.TheVariants as faults
use Rattle.nxt_nbc.specs.Checked.{Spells}
use Rattle.nxt_nbc.specs.Faults.{fault_seen}
use Rattle.nxt_nbc.proofs.Laws.Decided.{Decided, text_or_refusal}
use Rattle.nxt_asm_parts.specs.AssembledParts.{parts_of}
use Rattle.nxt_asm_rules.specs.AsmRules.{start_footprint}
use Rattle.nxt_asm_rules.proofs.Laws.Decided.{Judged, image_or_refusal}
use Rattle.nxt_tool.specs.Assembling.{assembled_line}
use Rattle.nxt_tool.specs.Due.{Answer, Answers, AssembledText, Assembles, answer, assembled_answer, read_status, refused_answer}
use Rattle.nxt_tool.specs.declared.fault.Refusal.TheVariants as refusals
use Rattle.nxt_report.specs.declared.status.Status.TheVariants as status
use Rattle.nxt_tool.proofs.Reports.Statuses.{nothing_yet, too_large}

-- ---- some answer is due

-- the program's fault that is seen as this one
pub fault_of : (f : text_rules.TextFault) → (g : NbcFault) × (fault_seen g ≡ Some f)
fault_of (text_rules.Lex line) = (faults.Lex line, refl)
fault_of (text_rules.Syntax line) = (faults.Syntax line, refl)
fault_of (text_rules.UnknownName line) = (faults.UnknownName line, refl)
fault_of (text_rules.TwiceNamed line) = (faults.TwiceNamed line, refl)
fault_of (text_rules.WrongKind line k) = (faults.Kind line k, refl)
fault_of (text_rules.OutOfRange line) = (faults.Range line, refl)
fault_of text_rules.NoMain = (faults.NoMain, refl)
fault_of (text_rules.TooMany case) = (faults.TooMany case, refl)

spelled_answer : (text : List ℕ) (t : Text) → Spells text t → Judged t → (a : Answer) × AssembledText text a
spelled_answer text t spelled (inl found) = (refused_answer (refusals.Assembler found.0), inl (refusals.Assembler found.0, (t, spelled, found.1), refl))
spelled_answer text t spelled (inr kept) =
    let file = file_of (parts_of t) in
    let line = assembled_line (length file) (start_footprint t) in
    (assembled_answer file line, inr (file, line, record { program = t; spelled = spelled; kept = kept; file_is = refl; line_is = refl }, refl))

text_answer : (text : List ℕ) → Decided text → (a : Answer) × AssembledText text a
text_answer text (inl found) =
    let g = fault_of found.0 in (refused_answer (refusals.Text g.0), inl (refusals.Text g.0, (found.0, g.1, found.1), refl))
text_answer text (inr found) = spelled_answer text found.0 found.1 (image_or_refusal found.0)

-- to every text
some_image : (program : List ℕ) → (a : Answer) × Assembles program a
some_image program = by (nat_lt 262144 (length program))
  where
    by : (long : Bool) → (a : Answer) × MatchBool long (a ≡ answer status.TooLarge [] []) (AssembledText program a)
    by true = (answer status.TooLarge [] [], refl)
    by false = text_answer program (text_or_refusal program)

-- ---- nothing is written

-- where a text isn't read to its end
pub unread_image : (fault : ReadAllFault) (program : List ℕ) (i w : Option (List ℕ)) → (fault ≡ TooLarge → nat_lt 262144 (length program) ≡ true)
    → (a : Answer) × Assembles program a × Answers (read_status fault) a i i w w
unread_image Failed program i w long =
    let due = some_image program in
    (due.0, due.1, record { report_text = nothing_yet w due.0.report; image_text = nothing_yet i due.0.image; in_turn = inl (Appends-none w) })
unread_image NoMemory program i w long =
    let due = some_image program in
    (due.0, due.1, record { report_text = nothing_yet w due.0.report; image_text = nothing_yet i due.0.image; in_turn = inl (Appends-none w) })
unread_image TooLarge program i w long = (
  answer status.TooLarge [] [],
  too_large (nat_lt 262144 (length program)) _ (long refl),
  record { report_text = (refl, Appends-none w); image_text = (refl, Appends-none i); in_turn = inl (Appends-none w) },
)

-- or there is no memory
pub no_memory_image : (program : List ℕ) (i w : Option (List ℕ)) → (a : Answer) × Assembles program a × Answers status.NoMemory a i i w w
no_memory_image program i w =
    let due = some_image program in
    (due.0, due.1, record { report_text = nothing_yet w due.0.report; image_text = nothing_yet i due.0.image; in_turn = inl (Appends-none w) })
