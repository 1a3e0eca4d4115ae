-- The arrays are those of the variables, and then the text constants.
use Rattle.std.proofs.Common.{◌<◌, ◌+◌, ◌*◌, ◌++◌, List, ap, flat_map, length, refl, ◌∙◌, arith}
use Rattle.std.proofs.lemmas.Bool.Decides.{nat_tests}
use Rattle.nxt_model.specs.TextProgram.{text_of}
use Rattle.nxt_asm_parts.specs.AssembledParts.{Valued, arrays_of, dynamic_of}
use Rattle.nxt_asm_parts.specs.Defaults.{text_leaves, variable_of}
use Rattle.nxt_asm_parts.specs.Lists.{var_arrays}
use Rattle.nxt_asm_parts.specs.declared.lists.ListsSoFar.{ListsSoFar}
use Rattle.nxt_asm_parts.proofs.Entries.{if_ok}
use Rattle.nxt_asm_parts.proofs.ListRows.{back_fits, front_fits, program_arrays, table_fits, table_written}
use Rattle.nxt_asm_parts.proofs.lists.dynamic_defaults_of.Goals as goal

pub write_all_vars-requires-clause-fits : goal.write_all_vars-requires-clause-fits
write_all_vars-requires-clause-fits c =
    let p = c.args.program.now in
    let ts = c.args.constants.now.texts in
    let begun : ListsSoFar =
    record { rows = c.new-2.result; lists = c.new-3.result; start = c.args.static_size + 10 * c.in_ok-defaults.defaults.row } in
    let xs : List Valued = flat_map (λ v. var_arrays (variable_of c.as_slice.result.now v)) c.as_slice-2.result.now in
    let whole = program_arrays p c.as_slice.result.now c.as_slice-2.result.now ts c.as_slice.ensures c.as_slice-2.ensures c.requires.texts in
    front_fits begun xs (flat_map text_leaves ts)
    (table_fits begun (xs ++ flat_map text_leaves ts) (arrays_of (text_of p)) c.args.static_size c.in_ok-defaults.defaults.row c.new-3.ensures refl whole
    c.in_ok-defaults.ensures.rows c.requires.places c.requires.small)

pub write_all_texts-requires : goal.write_all_texts-requires
write_all_texts-requires c =
    let p = c.args.program.now in
    let ts = c.args.constants.now.texts in
    let begun : ListsSoFar =
    record { rows = c.new-2.result; lists = c.new-3.result; start = c.args.static_size + 10 * c.in_ok-defaults.defaults.row } in
    let xs : List Valued = flat_map (λ v. var_arrays (variable_of c.as_slice.result.now v)) c.as_slice-2.result.now in
    let whole = program_arrays p c.as_slice.result.now c.as_slice-2.result.now ts c.as_slice.ensures c.as_slice-2.ensures c.requires.texts in
    back_fits begun c.write_all_vars.new.lists xs (flat_map text_leaves ts) c.in_ok-write_all_vars.ensures
    (table_fits begun (xs ++ flat_map text_leaves ts) (arrays_of (text_of p)) c.args.static_size c.in_ok-defaults.defaults.row c.new-3.ensures refl whole
    c.in_ok-defaults.ensures.rows c.requires.places c.requires.small)

pub returns : goal.returns
returns c =
    let p = c.args.program.now in
    let ts = c.args.constants.now.texts in
    let rows = c.in_ok-defaults.defaults.row in
    let begun : ListsSoFar = record { rows = c.new-2.result; lists = c.new-3.result; start = c.args.static_size + 10 * rows } in
    let xs : List Valued = flat_map (λ v. var_arrays (variable_of c.as_slice.result.now v)) c.as_slice-2.result.now in
    let whole = program_arrays p c.as_slice.result.now c.as_slice-2.result.now ts c.as_slice.ensures c.as_slice-2.ensures c.requires.texts in
    let many = c.in_ok-defaults.ensures.rows in
    let some : 0 < length (arrays_of (text_of p)) = grind (arith, nat_tests, many, c.if-rows-eq1.false) in
    if_ok c.table_of_rows.result
    (λ bytes is. table_written begun c.write_all_vars.new.lists c.write_all_texts.new.lists xs (flat_map text_leaves ts) (arrays_of (text_of p)) c.args.static_size
    rows bytes c.new-2.ensures c.new-3.ensures refl c.in_ok-write_all_vars.ensures c.in_ok-write_all_texts.ensures whole many some is
    ∙ ap (λ n. dynamic_of n (arrays_of (text_of p))) c.requires.size)
    c.table_of_rows.ensures
