-- The machine of a text's parts holds the text's image.
use Rattle.std.proofs.Common.{◌≡◌, ℕ, List, Result, Ok, Err, sym, subst}
use Rattle.std.specs.Prelude.{MatchResult}
use Rattle.nxt_types.specs.Refusals.{IsAccepted}
use Rattle.nxt_model.specs.TextProgram.{text_of}
use Rattle.nxt_model.specs.declared.nbc.NbcProgram.{NbcProgram}
use Rattle.nxt_rxe.specs.Files.{Fits}
use Rattle.nxt_rxe.specs.declared.parts.Parts.{Parts}
use Rattle.nxt_machine.specs.Machines.{MachineViews}
use Rattle.nxt_nbc.specs.Checked.{IsParsed}
use Rattle.nxt_asm_parts.specs.AssembledParts.{parts_of}
use Rattle.nxt_asm_rules.specs.AsmRules.{Broken}
use Rattle.nxt_tool.specs.Accepted.{IsRun, PartsCause}
use Rattle.nxt_tool.specs.Assembling.{HasTextCause, IsTextImage}
use Rattle.nxt_tool.specs.declared.fault.AcceptFault.{AcceptFault}
use Rattle.nxt_tool.proofs.FromText.{parts_have_bits, text_cause, text_image}
use Rattle.nxt_tool.proofs.assembling.machine_of_text.Goals as goal

pub assemble-requires : goal.assemble-requires
assemble-requires c = (c.args.text.now, c.in_ok-program.ensures.parsed)

pub machine_of-requires-clause-fits : goal.machine_of-requires-clause-fits
machine_of-requires-clause-fits c =
    subst Fits (sym c.in_ok-made.ensures.parts) (parts_have_bits c.args.text.now c.in_ok-program.program c.in_ok-program.ensures.parsed c.in_ok-made.ensures.kept)

by_parts : (text : List ℕ) (p : NbcProgram) → IsParsed text p → IsAccepted (Broken (text_of p)) → (parts : Parts) → parts ≡ parts_of (text_of p)
    → (r : Result MachineViews AcceptFault) → MatchResult r (λ m. IsRun parts m.image) (PartsCause parts) → MatchResult r (λ m. IsTextImage text m.image) (HasTextCause text)
by_parts text p parsed kept parts same (Ok m) h = text_image text p parsed kept m.image (subst (λ q. IsRun q m.image) same h)
by_parts text p parsed kept parts same (Err f) h = text_cause text p parsed kept f (subst (λ q. PartsCause q f) same h)

pub returns-clause-spelled : goal.returns-clause-spelled
returns-clause-spelled c =
    by_parts c.args.text.now c.in_ok-program.program c.in_ok-program.ensures.parsed c.in_ok-made.ensures.kept c.in_ok-made.made.parts c.in_ok-made.ensures.parts c.machine_of.result
    c.machine_of.ensures.accepted
