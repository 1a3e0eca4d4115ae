-- What the top call's statuses say of the due answer.
use Rattle.std.proofs.Common.{◌≡◌, ℕ, ◌<◌, List, [], Option, Some, true, false, refl, sym, ap, subst, arith, length, Bool, inl, inr, ◌⊎◌, ◌≤◌}
use Rattle.std.specs.Prelude.{IfSome, nat_lt}
use Rattle.std.specs.Io.KnownBytes.{Appends}
use Rattle.std.proofs.lemmas.Bool.Decides.{nat_tests}
use Rattle.nxt_layout.proofs.Laws.SomeStart.{some_start}
use Rattle.nxt_edge.specs.Edge.{AppendsFront, AreBytes}
use Rattle.nxt_edge.specs.declared.read_write.ReadAllFault.{ReadAllFault}
use Rattle.nxt_edge.specs.declared.read_write.ReadAllFault.TheVariants.{Failed, TooLarge, NoMemory}
use Rattle.nxt_edge.proofs.Laws.{Appends-none}
use Rattle.nxt_report.specs.declared.writing.Fault.{Fault}
use Rattle.nxt_report.specs.declared.writing.Fault.TheVariants as faults
use Rattle.nxt_model.specs.Image.{Image}
use Rattle.nxt_tool.specs.Due.{Answer, answer, Meets, RunOn, fault_status, read_status, refused_answer, described_answer, OnImage, Runs, DescribedFile, Describes, DueTo, Due, Answers}
use Rattle.nxt_tool.specs.declared.words.Command.{Command}
use Rattle.nxt_tool.specs.declared.words.Description.{Description}
use Rattle.nxt_tool.specs.declared.words.Description.TheVariants.{Footprint, Listing}
use Rattle.nxt_tool.specs.declared.words.Language.TheVariants.{Rxe}
use Rattle.nxt_tool.specs.Words.{command_of}
use Rattle.nxt_tool.specs.Accepted.{BreaksNone, IsRun, IsSound, IsAcceptedAs, IsRefused, IsDescribed, accepted_line, code_in}
use Rattle.nxt_tool.specs.declared.fault.Refusal.{Refusal}
use Rattle.nxt_tool.specs.declared.fault.Refusal.TheVariants as refusals
use Rattle.nxt_types.specs.Refusals.{IsRefusal, IsAccepted}
use Rattle.nxt_rxe.specs.declared.parts.Parts.{Parts}
use Rattle.nxt_rxe.specs.declared.fault.RxeFault.{RxeFault}
use Rattle.nxt_rxe.specs.Files.{IsFile}
use Rattle.nxt_rxe.specs.FileRules.{Broken, rank}
use Rattle.nxt_rxe.proofs.Laws.{file_or_refusal}
use Rattle.nxt_layout.specs.declared.fault.LayoutFault.{LayoutFault}
use Rattle.nxt_layout.specs.LayoutRules as layout_rules
use Rattle.nxt_layout.specs.Start.{image_of, HasShapes, start_footprint}
use Rattle.nxt_layout.proofs.Laws.Decided.{layout_or_refusal}
use Rattle.nxt_code.specs.declared.fault.CodeFault.{CodeFault}
use Rattle.nxt_code.specs.CodeRules as code_rules
use Rattle.nxt_code.proofs.Laws.Decided.{code_or_refusal}
use Rattle.nxt_types.specs.Shapes.{Members}
use Rattle.nxt_list.specs.Listing.{listing}
use Rattle.nxt_tool.proofs.Reports.Ends.{some_on}
use Rattle.nxt_tool.proofs.Reports.Going.{image_goes_on}
use Rattle.std.specs.Prelude.{MatchBool}
use Rattle.nxt_report.specs.declared.status.Status.{Status}
use Rattle.nxt_report.specs.declared.status.Status.TheVariants as status

pub nothing_yet : (w : Option (List ℕ)) (text : List ℕ) → AppendsFront w w text
nothing_yet w text = ([], (text, refl), Appends-none w)

-- a read that failed, where a source that is too long gives TooLarge with no text
pub read_failed : (fault : ReadAllFault) (d : Answer) (w : Option (List ℕ)) → (fault ≡ TooLarge → d ≡ answer status.TooLarge [] []) → Meets (read_status fault) d w w
read_failed Failed d w long = nothing_yet w d.report
read_failed NoMemory d w long = nothing_yet w d.report
read_failed TooLarge d w long = (sym (ap (λ (x : Answer). x.status) (long refl)), subst (λ (t : List ℕ). Appends w w t) (sym (ap (λ (x : Answer). x.report) (long refl))) (Appends-none w))

-- a known list is too long
pub long_list : (left : Option (List ℕ)) (s : List ℕ) (limit : ℕ) → left ≡ Some s → IfSome left (λ l. limit < length l) → nat_lt limit (length s) ≡ true
long_list left s limit e long = let h : limit < length s = subst (λ (o : Option (List ℕ)). IfSome o (λ l. limit < length l)) e long in grind (arith, nat_tests)

-- the bytes that were read are those that the source had
pub read_is : (left : Option (List ℕ)) (b bytes : List ℕ) → left ≡ Some b → IfSome left (λ l. bytes ≡ l) → bytes ≡ b
read_is left b bytes e h = subst (λ (o : Option (List ℕ)). IfSome o (λ l. bytes ≡ l)) e h

-- a sink that isn't used, where no text is due to it
pub unused : (s : Status) (d : Answer) (i r r' : Option (List ℕ)) → d.image ≡ [] → Meets s d r r' → Meets s (record d { report = d.image }) i i
unused status.Done d i r r' e m = (m.0, subst (λ (t : List ℕ). Appends i i t) (sym e) (Appends-none i))
unused status.Refused d i r r' e m = (m.0, subst (λ (t : List ℕ). Appends i i t) (sym e) (Appends-none i))
unused status.Words d i r r' e m = (m.0, subst (λ (t : List ℕ). Appends i i t) (sym e) (Appends-none i))
unused status.ScriptRefused d i r r' e m = (m.0, subst (λ (t : List ℕ). Appends i i t) (sym e) (Appends-none i))
unused status.TooLarge d i r r' e m = (m.0, subst (λ (t : List ℕ). Appends i i t) (sym e) (Appends-none i))
unused status.ReadFault d i r r' e m = nothing_yet i d.image
unused status.WriteFault d i r r' e m = nothing_yet i d.image
unused status.NoMemory d i r r' e m = nothing_yet i d.image

pub unwritten : (d : Answer) (i : Option (List ℕ)) → d.image ≡ [] → Appends i i d.image
unwritten d i e = subst (λ (t : List ℕ). Appends i i t) (sym e) (Appends-none i)

-- with a status that is no fault, a call gave the due one
pub right_status : (s : Status) (d : Answer) (r r' : Option (List ℕ)) → Meets s d r r' → (s ≡ status.ReadFault → ⊥) → (s ≡ status.WriteFault → ⊥) → (s ≡ d.status) ⊎ (s ≡ status.NoMemory)
right_status status.Done d r r' m a b = inl m.0
right_status status.Refused d r r' m a b = inl m.0
right_status status.Words d r r' m a b = inl m.0
right_status status.ScriptRefused d r r' m a b = inl m.0
right_status status.TooLarge d r r' m a b = inl m.0
right_status status.ReadFault d r r' m a b = absurd (a refl)
right_status status.WriteFault d r r' m a b = absurd (b refl)
right_status status.NoMemory d r r' m a b = inr refl

-- ---- programs

pub within_by : (long : Bool) (a : Answer) (go : Type 0) → long ≡ false → go → MatchBool long (a ≡ answer status.TooLarge [] []) go
within_by true a go e is = absurd (let f : ⊥ = cc in f)
within_by false a go e is = is

pub short_program : (program : List ℕ) → length program ≤ 262144 → nat_lt 262144 (length program) ≡ false
short_program program h = grind (arith, nat_tests)

pub too_large : (long : Bool) (go : Type 0) → long ≡ true → MatchBool long (answer status.TooLarge [] [] ≡ answer status.TooLarge [] []) go
too_large true go e = refl
too_large false go e = absurd (let f : ⊥ = cc in f)

module _ (effort : ℕ) where
  -- the line of a refused program is due
  pub refused_run : (program script : List ℕ) (r : Refusal) → length program ≤ 262144 → IsRefused program r → Runs Rxe effort program script (refused_answer r)
  refused_run program script r few refused =
      within_by (nat_lt 262144 (length program)) (refused_answer r) _ (short_program program few) (inl (r, refused, refl))

  -- what is due to a script on an accepted program is due
  pub accepted_run : (program script : List ℕ) (image : Image) (a : Answer) → length program ≤ 262144 → IsAcceptedAs program image → RunOn image effort script a → Runs Rxe effort program script a
  accepted_run program script image a few accepted on =
      within_by (nat_lt 262144 (length program)) a _ (short_program program few) (inr (image, accepted, on))

  abbrev SomeAnswer : List ℕ → List ℕ → Type 0
  SomeAnswer program script = (a : Answer) × OnImage effort program script a

  on_accepted : (program script : List ℕ) (p : Parts) (ss : Members) → IsFile program p → BreaksNone p ss → SomeAnswer program script
  on_accepted program script p ss file sound =
      let start = some_start p ss sound.layout sound.shapes in
      let image = image_of p ss start.0 in
      let run : IsRun p image = record { shapes = ss; sound = sound; vars = start.0; starts = start.1; image_is = refl } in
      let some = some_on image effort (image_goes_on program image (p, file, run) effort) script in
      (some.0, inr (image, (p, file, run), some.1))

  by_code : (program script : List ℕ) (p : Parts) (ss : Members) → IsFile program p → IsAccepted (layout_rules.Broken p) → HasShapes p ss →
      ((f : CodeFault) × IsRefusal (code_rules.Broken (code_in p ss)) code_rules.rank f) ⊎ IsAccepted (code_rules.Broken (code_in p ss)) → SomeAnswer program script
  by_code program script p ss file layout shapes (inl found) =
      (refused_answer (refusals.Code found.0), inl (refusals.Code found.0, (p, file, (layout, ss, shapes, found.1)), refl))
  by_code program script p ss file layout shapes (inr code) =
      on_accepted program script p ss file (record { layout = layout; shapes = shapes; code = code })

  by_layout : (program script : List ℕ) (p : Parts) → IsFile program p → ((f : LayoutFault) × IsRefusal (layout_rules.Broken p) layout_rules.rank f) ⊎ (IsAccepted (layout_rules.Broken p) × (ss : Members) × HasShapes p ss) → SomeAnswer program script
  by_layout program script p file (inl found) = (refused_answer (refusals.Layout found.0), inl (refusals.Layout found.0, (p, file, found.1), refl))
  by_layout program script p file (inr found) = by_code program script p found.1 file found.0 found.2 (code_or_refusal (code_in p found.1))

  by_file : (program script : List ℕ) → ((f : RxeFault) × IsRefusal (Broken program) rank f) ⊎ ((p : Parts) × IsFile program p) → SomeAnswer program script
  by_file program script (inl found) = (refused_answer (refusals.Sections found.0), inl (refusals.Sections found.0, found.1, refl))
  by_file program script (inr found) =
      by_layout program script found.0 found.1 (layout_or_refusal found.0)

  by_length : (long : Bool) (program script : List ℕ) → AreBytes program → (a : Answer) × MatchBool long (a ≡ answer status.TooLarge [] []) (OnImage effort program script a)
  by_length true program script bytes = (answer status.TooLarge [] [], refl)
  by_length false program script bytes = by_file program script (file_or_refusal program bytes)

  -- some answer is due to every program and script
  pub some_run : (program script : List ℕ) → AreBytes program → (a : Answer) × Runs Rxe effort program script a
  some_run program script bytes = by_length (nat_lt 262144 (length program)) program script bytes

  -- nothing is written where a program isn't read to its end
  pub unread_run : (fault : ReadAllFault) (program script : List ℕ) (w : Option (List ℕ)) → AreBytes program → (fault ≡ TooLarge → nat_lt 262144 (length program) ≡ true) →
      (a : Answer) × Runs Rxe effort program script a × Meets (read_status fault) a w w
  unread_run Failed program script w bytes long = let due = some_run program script bytes in (due.0, due.1, nothing_yet w due.0.report)
  unread_run NoMemory program script w bytes long = let due = some_run program script bytes in (due.0, due.1, nothing_yet w due.0.report)
  unread_run TooLarge program script w bytes long = (answer status.TooLarge [] [], too_large (nat_lt 262144 (length program)) _ (long refl), (refl, Appends-none w))

  pub no_memory_run : (program script : List ℕ) (w : Option (List ℕ)) → AreBytes program → (a : Answer) × Runs Rxe effort program script a × Meets status.NoMemory a w w
  no_memory_run program script w bytes = let due = some_run program script bytes in (due.0, due.1, nothing_yet w due.0.report)

  -- no image text is due to a run
  no_image_of : (program script : List ℕ) (a : Answer) → OnImage effort program script a → a.image ≡ []
  no_image_of program script a (inl refused) = ap (λ (x : Answer). x.image) refused.2
  no_image_of program script a (inr accepted) = ap (λ (x : Answer). x.image) accepted.2.2

  no_image_by : (long : Bool) (program script : List ℕ) (a : Answer) → MatchBool long (a ≡ answer status.TooLarge [] []) (OnImage effort program script a) → a.image ≡ []
  no_image_by true program script a due = ap (λ (x : Answer). x.image) due
  no_image_by false program script a due = no_image_of program script a due

  pub no_image : (program script : List ℕ) (a : Answer) → Runs Rxe effort program script a → a.image ≡ []
  no_image program script a due = no_image_by (nat_lt 262144 (length program)) program script a due

-- ---- descriptions

module _ (d : Description) where
  -- the line of a program that breaks a rule is due
  pub refused_description : (program : List ℕ) (r : Refusal) → length program ≤ 262144 → IsRefused program r → Describes d program (refused_answer r)
  refused_description program r few broken =
      within_by (nat_lt 262144 (length program)) (refused_answer r) _ (short_program program few) (inl (r, broken, refl))

  -- and so is what is told of another
  pub due_description : (program text : List ℕ) → length program ≤ 262144 → IsDescribed d program text → Describes d program (described_answer text)
  due_description program text few told =
      within_by (nat_lt 262144 (length program)) (described_answer text) _ (short_program program few) (inr (text, told, refl))

-- something is told of a file that breaks no rule
some_description : (d : Description) (program : List ℕ) (p : Parts) (ss : Members) → IsFile program p → BreaksNone p ss → (text : List ℕ) × IsDescribed d program text
some_description Footprint program p ss file sound =
    let start = some_start p ss sound.layout sound.shapes in
    let size = start_footprint p ss start.0 in
    let is : IsSound p size = record { shapes = ss; sound = sound; vars = start.0; starts = start.1; size_is = refl } in
    (accepted_line size, (size, (p, file, is), refl))
some_description Listing program p ss file sound = (listing p ss, (p, file, ss, sound, refl))

module _ (d : Description) where
  described : (program : List ℕ) (p : Parts) (ss : Members) → IsFile program p → BreaksNone p ss → (a : Answer) × DescribedFile d program a
  described program p ss file sound =
      let told = some_description d program p ss file sound in (described_answer told.0, inr (told.0, told.1, refl))

  described_code : (program : List ℕ) (p : Parts) (ss : Members) → IsFile program p → IsAccepted (layout_rules.Broken p) → HasShapes p ss →
      ((f : CodeFault) × IsRefusal (code_rules.Broken (code_in p ss)) code_rules.rank f) ⊎ IsAccepted (code_rules.Broken (code_in p ss)) → (a : Answer) × DescribedFile d program a
  described_code program p ss file layout shapes (inl found) =
      (refused_answer (refusals.Code found.0), inl (refusals.Code found.0, (p, file, (layout, ss, shapes, found.1)), refl))
  described_code program p ss file layout shapes (inr code) = described program p ss file (record { layout = layout; shapes = shapes; code = code })

  described_layout : (program : List ℕ) (p : Parts) → IsFile program p → ((f : LayoutFault) × IsRefusal (layout_rules.Broken p) layout_rules.rank f) ⊎ (IsAccepted (layout_rules.Broken p) × (ss : Members) × HasShapes p ss) → (a : Answer) × DescribedFile d program a
  described_layout program p file (inl found) = (refused_answer (refusals.Layout found.0), inl (refusals.Layout found.0, (p, file, found.1), refl))
  described_layout program p file (inr found) = described_code program p found.1 file found.0 found.2 (code_or_refusal (code_in p found.1))

  described_sections : (program : List ℕ) → ((f : RxeFault) × IsRefusal (Broken program) rank f) ⊎ ((p : Parts) × IsFile program p) → (a : Answer) × DescribedFile d program a
  described_sections program (inl found) = (refused_answer (refusals.Sections found.0), inl (refusals.Sections found.0, found.1, refl))
  described_sections program (inr found) = described_layout program found.0 found.1 (layout_or_refusal found.0)

  described_length : (long : Bool) (program : List ℕ) → AreBytes program → (a : Answer) × MatchBool long (a ≡ answer status.TooLarge [] []) (DescribedFile d program a)
  described_length true program bytes = (answer status.TooLarge [] [], refl)
  described_length false program bytes = described_sections program (file_or_refusal program bytes)

  -- some answer is due to every program
  some_answer : (program : List ℕ) → AreBytes program → (a : Answer) × Describes d program a
  some_answer program bytes = described_length (nat_lt 262144 (length program)) program bytes

  -- nothing is written where a program isn't read to its end
  pub unread_description : (fault : ReadAllFault) (program : List ℕ) (w : Option (List ℕ)) → AreBytes program → (fault ≡ TooLarge → nat_lt 262144 (length program) ≡ true) →
      (a : Answer) × Describes d program a × Meets (read_status fault) a w w
  unread_description Failed program w bytes long = let due = some_answer program bytes in (due.0, due.1, nothing_yet w due.0.report)
  unread_description NoMemory program w bytes long = let due = some_answer program bytes in (due.0, due.1, nothing_yet w due.0.report)
  unread_description TooLarge program w bytes long = (answer status.TooLarge [] [], too_large (nat_lt 262144 (length program)) _ (long refl), (refl, Appends-none w))

  pub no_memory_description : (program : List ℕ) (w : Option (List ℕ)) → AreBytes program → (a : Answer) × Describes d program a × Meets status.NoMemory a w w
  no_memory_description program w bytes = let due = some_answer program bytes in (due.0, due.1, nothing_yet w due.0.report)

  -- no image text is due to a description
  no_image_described : (program : List ℕ) (a : Answer) → DescribedFile d program a → a.image ≡ []
  no_image_described program a (inl refused) = ap (λ (x : Answer). x.image) refused.2
  no_image_described program a (inr told) = ap (λ (x : Answer). x.image) told.2

  no_image_within : (long : Bool) (program : List ℕ) (a : Answer) → MatchBool long (a ≡ answer status.TooLarge [] []) (DescribedFile d program a) → a.image ≡ []
  no_image_within true program a due = ap (λ (x : Answer). x.image) due
  no_image_within false program a due = no_image_described program a due

  pub no_image_description : (program : List ℕ) (a : Answer) → Describes d program a → a.image ≡ []
  no_image_description program a due = no_image_within (nat_lt 262144 (length program)) program a due

-- ---- commands

-- what is due to a command is due to its words
pub due_to : (words : List (List ℕ)) (command : Option Command) (program script : List ℕ) (a : Answer) → command_of words ≡ command → DueTo command program script a → Due words program script a
due_to words command program script a form due = subst (λ o. DueTo o program script a) (sym form) due

pub no_words_answer : (image report : Option (List ℕ)) → Answers status.Words (answer status.Words [] []) image image report report
no_words_answer image report = record { report_text = (refl, Appends-none report); image_text = (refl, Appends-none image); in_turn = inl (Appends-none report) }

-- ---- no fault is an end

pub fault_not_done : (f : Fault) → fault_status f ≡ status.Done → ⊥
fault_not_done faults.Read e = cc
fault_not_done faults.Write e = cc
fault_not_done faults.NoMemory e = cc

pub read_not_done : (f : ReadAllFault) → read_status f ≡ status.Done → ⊥
read_not_done Failed e = cc
read_not_done TooLarge e = cc
read_not_done NoMemory e = cc
