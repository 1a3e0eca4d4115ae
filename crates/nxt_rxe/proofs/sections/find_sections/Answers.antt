use Rattle.std.proofs.Common.{◌≡◌, ℕ, ◌+◌, ◌*◌, slice_range, ap, ap₂, sym, ◌∙◌, arith}
use Rattle.std.proofs.lemmas.Result.{err_from_is_err_and}
use Rattle.nxt_rxe.specs.FileRules.{dependents_told, clumps_start, clumps_end}
use Rattle.nxt_rxe.proofs.Rules.FirstBroken.{clumps_first, dependents_first, code_first}
use Rattle.nxt_rxe.proofs.sections.find_sections.Goals as goal

pub returns-in_err-clumps-clause-err : goal.returns-in_err-clumps-clause-err
returns-in_err-clumps-clause-err c =
    let r = err_from_is_err_and c.from_residual-in_err-clumps.result c.from_residual-in_err-clumps.ensures.1 in
    let bytes = c.args.bytes.now in
    let table = c.in_ok-table.ensures.size in
    let defaults = c.in_ok-defaults.ensures.size in
    let within = c.in_ok-defaults.ensures.within in
    let past = c.in_err-clumps.ensures.err.1 in
    let dynamic = sym (c.dynamic_passes.ensures bytes c.requires.header) ∙ c.if-dynamic_passes.false in
    rw (r.1, r.2) (clumps_first bytes c.in_err-clumps.field-0.0 c.in_err-clumps.ensures.err.0 dynamic (omega (arith, table, within)) (omega (arith, table, defaults, past)))

pub returns-in_err-dependents-clause-err : goal.returns-in_err-dependents-clause-err
returns-in_err-dependents-clause-err c =
    let r = err_from_is_err_and c.from_residual-in_err-dependents.result c.from_residual-in_err-dependents.ensures.1 in
    let bytes = c.args.bytes.now in
    let table = c.in_ok-table.ensures.size in
    let defaults = c.in_ok-defaults.ensures.size in
    let clumps = c.in_ok-clumps.ensures.size in
    let within = c.in_ok-clumps.ensures.within in
    let past = c.in_err-dependents.ensures.err.1 in
    let start : c.next_even-clumps_start.result ≡ clumps_start bytes = omega (arith, table, defaults) in
    let end : c.next_even-clumps_start.result + 4 * c.from-clumps_size.result ≡ clumps_end bytes = omega (arith, start) in
    let told = c.dependents_told.ensures.value ∙ ap dependents_told c.in_ok-clumps.ensures.ok ∙ ap₂ (λ (i j : ℕ). dependents_told (slice_range bytes i j)) start end in
    let dynamic = sym (c.dynamic_passes.ensures bytes c.requires.header) ∙ c.if-dynamic_passes.false in
    rw (r.1, r.2) (dependents_first bytes c.in_err-dependents.field-0.0 c.in_err-dependents.ensures.err.0 dynamic (omega (arith, end, within)) (omega (arith, start, end, clumps, told, past)))

pub returns-in_err-code-clause-err : goal.returns-in_err-code-clause-err
returns-in_err-code-clause-err c =
    let r = err_from_is_err_and c.from_residual-in_err-code.result c.from_residual-in_err-code.ensures.1 in
    let bytes = c.args.bytes.now in
    let table = c.in_ok-table.ensures.size in
    let defaults = c.in_ok-defaults.ensures.size in
    let clumps = c.in_ok-clumps.ensures.size in
    let dependents = c.in_ok-dependents.ensures.size in
    let within = c.in_ok-dependents.ensures.within in
    let past = c.in_err-code.ensures.err.1 in
    let start : c.next_even-clumps_start.result ≡ clumps_start bytes = omega (arith, table, defaults) in
    let end : c.next_even-clumps_start.result + 4 * c.from-clumps_size.result ≡ clumps_end bytes = omega (arith, start) in
    let told = c.dependents_told.ensures.value ∙ ap dependents_told c.in_ok-clumps.ensures.ok ∙ ap₂ (λ (i j : ℕ). dependents_told (slice_range bytes i j)) start end in
    let dynamic = sym (c.dynamic_passes.ensures bytes c.requires.header) ∙ c.if-dynamic_passes.false in
    rw (r.1, r.2) (code_first bytes c.in_err-code.field-0.0 c.in_err-code.ensures.err.0 dynamic (omega (arith, start, end, clumps, told, within)) (omega (arith, start, end, clumps, dependents, told, past)))
