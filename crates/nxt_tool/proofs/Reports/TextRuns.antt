-- What is due to a text that is run.
use Rattle.std.proofs.Common.{◌≡◌, ℕ, ◌≤◌, List, [], Option, Bool, true, false, length, refl, ap, inl, inr}
use Rattle.std.specs.Prelude.{MatchBool, flat_map, nat_lt}
use Rattle.nxt_edge.specs.declared.read_write.ReadAllFault.{ReadAllFault}
use Rattle.nxt_edge.specs.declared.read_write.ReadAllFault.TheVariants.{Failed, TooLarge, NoMemory}
use Rattle.nxt_edge.proofs.Laws.{Appends-none}
use Rattle.nxt_types.specs.Refusals.{IsAccepted}
use Rattle.nxt_model.specs.Assembled.{assembled}
use Rattle.nxt_model.specs.Step.{events_of}
use Rattle.nxt_model.specs.TextProgram.{Text}
use Rattle.nxt_script.specs.Rows.{rows}
use Rattle.nxt_nbc.specs.Checked.{Spells}
use Rattle.nxt_nbc.proofs.Laws.Decided.{Decided, text_or_refusal}
use Rattle.nxt_asm_rules.specs.AsmRules.{Broken}
use Rattle.nxt_asm_rules.proofs.Laws.Decided.{Judged, image_or_refusal}
use Rattle.nxt_report.specs.declared.status.Status.TheVariants as status
use Rattle.nxt_tool.specs.Assembling.{IsRefusedText}
use Rattle.nxt_tool.specs.Due.{Answer, Meets, OnText, RunOn, RunOnText, Runs, answer, read_status, refused_answer}
use Rattle.nxt_tool.specs.declared.words.Language.TheVariants.{Nbc}
use Rattle.nxt_tool.specs.declared.fault.Refusal.{Refusal}
use Rattle.nxt_tool.specs.declared.fault.Refusal.TheVariants as refusals
use Rattle.nxt_tool.proofs.Reports.Ends.{some_on}
use Rattle.nxt_tool.proofs.Reports.Going.{assembled_goes_on, text_tells}
use Rattle.nxt_tool.proofs.Reports.Images.{fault_of}
use Rattle.nxt_tool.proofs.Reports.Statuses.{nothing_yet, short_program, too_large, within_by}

-- ---- reports

module _ (text : List ℕ) (t : Text) (spelled : Spells text t) (kept : IsAccepted (Broken t)) (effort : ℕ) (script : List ℕ) where
  -- a report of the image is one of the text
  pub text_on : (a : Answer) → RunOn (assembled t) effort script a → RunOnText t effort script a
  text_on a on = (on.0, (on.1.0, text_tells text t spelled kept effort (flat_map events_of (rows script).rows) on.1.0 on.1.1, on.1.2), on.2)

  -- some report is due
  some_report : (a : Answer) × RunOnText t effort script a
  some_report = let some = some_on (assembled t) effort (assembled_goes_on text t spelled kept effort) script in (some.0, text_on some.0 some.1)

-- ---- programs

spelled_run : (effort : ℕ) (text script : List ℕ) (t : Text) → Spells text t → Judged t → (a : Answer) × OnText effort text script a
spelled_run effort text script t spelled (inl found) = (refused_answer (refusals.Assembler found.0), inl (refusals.Assembler found.0, (t, spelled, found.1), refl))
spelled_run effort text script t spelled (inr kept) = let due = some_report text t spelled kept effort script in (due.0, inr (t, spelled, kept, due.1))

decided_run : (effort : ℕ) (text script : List ℕ) → Decided text → (a : Answer) × OnText effort text script a
decided_run effort text script (inl found) =
    let g = fault_of found.0 in (refused_answer (refusals.Text g.0), inl (refusals.Text g.0, (found.0, g.1, found.1), refl))
decided_run effort text script (inr found) = spelled_run effort text script found.0 found.1 (image_or_refusal found.0)

-- some answer is due to every text and script
some_text_run : (effort : ℕ) (program script : List ℕ) → (a : Answer) × Runs Nbc effort program script a
some_text_run effort program script = by (nat_lt 262144 (length program))
  where
    by : (long : Bool) → (a : Answer) × MatchBool long (a ≡ answer status.TooLarge [] []) (OnText effort program script a)
    by true = (answer status.TooLarge [] [], refl)
    by false = decided_run effort program script (text_or_refusal program)

-- the line of a refused text is due
pub refused_text_run : (effort : ℕ) (program script : List ℕ) (r : Refusal) → length program ≤ 262144 → IsRefusedText program r → Runs Nbc effort program script (refused_answer r)
refused_text_run effort program script r few refused =
    within_by (nat_lt 262144 (length program)) (refused_answer r) _ (short_program program few) (inl (r, refused, refl))

-- and what is due to a script on another
pub spelled_text_run : (effort : ℕ) (program script : List ℕ) (t : Text) (a : Answer) → length program ≤ 262144 → Spells program t → IsAccepted (Broken t) → RunOnText t effort script a → Runs Nbc effort program script a
spelled_text_run effort program script t a few spelled kept on =
    within_by (nat_lt 262144 (length program)) a _ (short_program program few) (inr (t, spelled, kept, on))

-- nothing is written where a text isn't read to its end
pub unread_text_run : (effort : ℕ) (fault : ReadAllFault) (program script : List ℕ) (w : Option (List ℕ)) → (fault ≡ TooLarge → nat_lt 262144 (length program) ≡ true)
    → (a : Answer) × Runs Nbc effort program script a × Meets (read_status fault) a w w
unread_text_run effort Failed program script w long = let due = some_text_run effort program script in (due.0, due.1, nothing_yet w due.0.report)
unread_text_run effort NoMemory program script w long = let due = some_text_run effort program script in (due.0, due.1, nothing_yet w due.0.report)
unread_text_run effort TooLarge program script w long = (answer status.TooLarge [] [], too_large (nat_lt 262144 (length program)) _ (long refl), (refl, Appends-none w))

pub no_memory_text_run : (effort : ℕ) (program script : List ℕ) (w : Option (List ℕ)) → (a : Answer) × Runs Nbc effort program script a × Meets status.NoMemory a w w
no_memory_text_run effort program script w = let due = some_text_run effort program script in (due.0, due.1, nothing_yet w due.0.report)

-- no image is due
no_image_on : (effort : ℕ) (program script : List ℕ) (a : Answer) → OnText effort program script a → a.image ≡ []
no_image_on effort program script a (inl refused) = ap (λ (x : Answer). x.image) refused.2
no_image_on effort program script a (inr on) = ap (λ (x : Answer). x.image) on.3.2

pub no_image_text : (effort : ℕ) (program script : List ℕ) (a : Answer) → Runs Nbc effort program script a → a.image ≡ []
no_image_text effort program script a due = by (nat_lt 262144 (length program)) due
  where
    by : (long : Bool) → MatchBool long (a ≡ answer status.TooLarge [] []) (OnText effort program script a) → a.image ≡ []
    by true due = ap (λ (x : Answer). x.image) due
    by false due = no_image_on effort program script a due
