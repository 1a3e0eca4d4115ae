-- What breaks no rule is judged, and a fault has its cause.
use Rattle.std.proofs.Common.{◌≡◌, ◌⊎◌, sym, ap, ◌∙◌, subst}
use Rattle.nxt_types.specs.Refusals.{IsAccepted, IsRefusal}
use Rattle.nxt_types.specs.Tables.{Table}
use Rattle.nxt_rxe.specs.declared.parts.Parts.{Parts}
use Rattle.nxt_rxe.specs.declared.parts.CodeSections.{CodeSections}
use Rattle.nxt_layout.specs.Layouts.{FileLayout}
use Rattle.nxt_layout.specs.Start.{HasShapes}
use Rattle.nxt_code.specs.CodeRules.{program, Broken, rank}
use Rattle.nxt_code.specs.Decoding.{IsDecoded}
use Rattle.nxt_code.specs.declared.fault.CodeFault.TheVariants.{NoMemory}
use Rattle.nxt_tool.specs.Accepted.{code_in}
use Rattle.nxt_tool.proofs.FromFile.Faults.{layout_cause, code_cause, handed_on}
use Rattle.nxt_tool.proofs.accepting.judge.Goals as goal

abbrev sections_of : Parts → CodeSections
sections_of p = record { clumps = p.clumps; dependents = p.dependents; code = p.code }

-- the code is checked for the variables of the layout
same_code : (p : Parts) (l : FileLayout) (t : Table) (r : CodeSections) → t ≡ record { entries = l.entries; shapes = l.shapes } → r ≡ sections_of p → program t.shapes r.clumps r.dependents r.code ≡ code_in p l.shapes
same_code p l t r table rest =
    ap (λ (u : Table). program u.shapes r.clumps r.dependents r.code) table ∙ ap (λ (q : CodeSections). program l.shapes q.clumps q.dependents q.code) rest

pub returns : goal.returns
returns c =
    let p = c.args.parts in
    let rest = c.in_ok-layout.ensures.rest in
    let found = c.in_ok-code.ensures in
    record {
      counts = c.requires.counts;
      layout = c.in_ok-layout.ensures.found c.requires.counts;
      code = subst (λ q. IsAccepted (Broken q)) (same_code p c.in_ok-layout.layout c.toc.result.now c.in_ok-layout.rest c.toc.ensures rest) found.found;
      words = found.parts.0 ∙ ap (λ (r : CodeSections). r.code) rest;
      clumps = found.parts.1 ∙ ap (λ (r : CodeSections). r.clumps) rest;
      dependents = found.parts.2 ∙ ap (λ (r : CodeSections). r.dependents) rest;
      decoded = subst (λ ws. IsDecoded ws c.in_ok-code.code.decoded) (ap (λ (r : CodeSections). r.code) rest) found.decoded;
    }

pub returns-in_err-layout : goal.returns-in_err-layout
returns-in_err-layout c =
    handed_on c.from_residual.result _ _ _ c.from_residual.ensures.1
    (layout_cause c.args.parts c.in_err-layout.field-0.0 (c.in_err-layout.ensures.refused c.requires.counts))

pub returns-in_err-code : goal.returns-in_err-code
returns-in_err-code c =
    let p = c.args.parts in
    let f = c.in_err-code.field-0.0 in
    let l = c.in_ok-layout.layout in
    let made = c.in_ok-layout.ensures.found c.requires.counts in
    let shapes : HasShapes p l.shapes = subst (HasShapes p) (sym (ap (λ (x : FileLayout). x.shapes) made.layout)) made.starts.shapes in
    let refused = subst
    (λ q. (f ≡ NoMemory) ⊎ IsRefusal (Broken q) rank f)
    (same_code p l c.toc.result.now c.in_ok-layout.rest c.toc.ensures c.in_ok-layout.ensures.rest)
    c.in_err-code.ensures.refused in
    handed_on c.from_residual-in_err-code.result _ _ _ c.from_residual-in_err-code.ensures.1 (code_cause p l.shapes f made.accepted shapes refused)
