use Rattle.std.proofs.Common.{◌≡◌, arith, inr}
use Rattle.std.proofs.lemmas.Result.{err_from_is_err_and, IfOk-weaker, MatchResult-from_both}
use Rattle.nxt_rxe.specs.declared.parts.Parts.{Parts}
use Rattle.nxt_rxe.specs.declared.fault.RxeFault.TheVariants.{Section, NoMemory}
use Rattle.nxt_rxe.specs.Files.{IsFile}
use Rattle.nxt_rxe.specs.FileRules.{table_end}
use Rattle.nxt_rxe.specs.Inside.Reading.{ArePartsOf, bytes_of}
use Rattle.nxt_rxe.proofs.Files.OneList.{at_most_one}
use Rattle.nxt_rxe.proofs.Rules.Accepted.{breaks_nothing}
use Rattle.nxt_rxe.proofs.Rules.FirstBroken.{first_section_is}
use Rattle.nxt_rxe.proofs.Files.Found.{is_accepted, is_found, part_len}
use Rattle.nxt_rxe.proofs.file.read_rxe.Goals as goal

pub returns-in_err-check_head-clause-accepted : goal.returns-in_err-check_head-clause-accepted
returns-in_err-check_head-clause-accepted c = λ p f. absurd (breaks_nothing c.args.bytes.now p f c.in_err-check_head.field-0.0 c.in_err-check_head.ensures.err.broken)

pub returns-in_err-sections-clause-refused : goal.returns-in_err-sections-clause-refused
returns-in_err-sections-clause-refused c =
    let r = err_from_is_err_and c.from_residual-in_err-sections.result c.from_residual-in_err-sections.ensures.1 in
    rw (r.1, r.2) (inr (first_section_is c.args.bytes.now c.in_err-sections.field-0.0 c.in_ok-check_head.ensures.ok c.in_err-sections.ensures.err))

pub returns-in_err-sections-clause-accepted : goal.returns-in_err-sections-clause-accepted
returns-in_err-sections-clause-accepted c =
    let first = c.in_err-sections.ensures.err in
    λ p f. absurd (breaks_nothing c.args.bytes.now p f (Section first.section) first.passes)

pub read_sections-requires-clause-table : goal.read_sections-requires-clause-table
read_sections-requires-clause-table c =
    let at = c.in_ok-sections.ensures.ok in
    let end = at.end in
    let len = part_len c.args.bytes.now c.in_ok-sections.sections.table.now 38 (table_end c.args.bytes.now) (omega arith) (omega arith) at.table in
    omega (arith, len)

-- what was read is a file of its parts
found : (c : goal.After-read_sections) (p : Parts) → ArePartsOf c.read_header-header.result (bytes_of c.in_ok-sections.sections) p → IsFile c.args.bytes.now p
found c p parts = is_found c.args.bytes.now (bytes_of c.in_ok-sections.sections) c.read_header-header.result p (λ i. omega (arith, c.type_inv.bytes i)) c.in_ok-check_head.ensures.ok c.read_header-header.ensures c.in_ok-sections.ensures.ok parts

pub returns-clause-found : goal.returns-clause-found
returns-clause-found c = IfOk-weaker c.read_sections.result _ (λ p. IsFile c.args.bytes.now p) (found c) c.read_sections.ensures.ok

pub returns-clause-only : goal.returns-clause-only
returns-clause-only c =
    IfOk-weaker c.read_sections.result _ (λ p. (q : Parts) → IsFile c.args.bytes.now q → q ≡ p)
    (λ p parts q f. at_most_one c.args.bytes.now q p f (found c p parts)) c.read_sections.ensures.ok

pub returns-clause-accepted : goal.returns-clause-accepted
returns-clause-accepted c = λ p f.
    MatchResult-from_both c.read_sections.result (λ q. q ≡ p) (λ g. g ≡ NoMemory)
    (IfOk-weaker c.read_sections.result _ (λ q. q ≡ p) (λ q parts. at_most_one c.args.bytes.now q p (found c q parts) f) c.read_sections.ensures.ok)
    c.read_sections.ensures.err

pub returns-clause-memory : goal.returns-clause-memory
returns-clause-memory c = λ e. is_accepted c.args.bytes.now (bytes_of c.in_ok-sections.sections) c.in_ok-check_head.ensures.ok c.in_ok-sections.ensures.ok
