-- The leaves of the variables, of the return variables, of the number constants and of the text constants are all.
use Rattle.std.proofs.Common.{arith, ◌≡◌, ◌++◌, List, flat_map, refl, sym, ap, ◌∙◌}
use Rattle.nxt_model.specs.TextProgram.{text_of}
use Rattle.nxt_asm_parts.specs.AssembledParts.{Valued, defaults_from, leaves_of}
use Rattle.nxt_asm_parts.specs.Defaults.{array_count, constant_leaves, return_leaves, text_leaves, var_leaves, variable_of}
use Rattle.nxt_asm_parts.proofs.DefaultLeaves.{first_fits, four_leaves, last_fits, program_leaves}
use Rattle.nxt_asm_parts.proofs.defaults.all_defaults.Goals as goal

pub write_vars-requires-clause-rows : goal.write_vars-requires-clause-rows
write_vars-requires-clause-rows c =
    let p = c.args.program.now in
    let whole =
    program_leaves p c.as_slice.result.now c.as_slice-2.result.now p.blocks c.args.constants.now.numbers c.args.constants.now.texts c.as_slice.ensures
    c.as_slice-2.ensures refl c.requires.numbers c.requires.texts in
    first_fits (leaves_of (text_of p)) (flat_map (λ v. var_leaves (variable_of c.as_slice.result.now v)) c.as_slice-2.result.now) _
    (record { bytes = c.new.result; row = 1 }) refl whole c.requires.rows

pub write_texts-requires : goal.write_texts-requires
write_texts-requires c =
    let p = c.args.program.now in
    let zs = c.args.constants.now.numbers in
    let ts = c.args.constants.now.texts in
    let whole =
    program_leaves p c.as_slice.result.now c.as_slice-2.result.now c.as_slice-3.result.now zs ts c.as_slice.ensures c.as_slice-2.ensures c.as_slice-3.ensures
    c.requires.numbers c.requires.texts in
    last_fits (leaves_of (text_of p)) (record { bytes = c.new.result; row = 1 }) c.write_vars.new.defaults c.write_returns.new.defaults c.write_numbers.new.defaults
    (flat_map (λ v. var_leaves (variable_of c.as_slice.result.now v)) c.as_slice-2.result.now) (flat_map return_leaves c.as_slice-3.result.now)
    (flat_map constant_leaves zs) (flat_map text_leaves ts) refl c.in_ok-write_vars.ensures c.in_ok-write_returns.ensures c.in_ok-write_numbers.ensures whole
    c.requires.rows

pub returns : goal.returns
returns c =
    let p = c.args.program.now in
    let zs = c.args.constants.now.numbers in
    let ts = c.args.constants.now.texts in
    let first : List Valued = flat_map (λ v. var_leaves (variable_of c.as_slice.result.now v)) c.as_slice-2.result.now in
    let second : List Valued = flat_map return_leaves c.as_slice-3.result.now in
    let all : List Valued = first ++ (second ++ (flat_map constant_leaves zs ++ flat_map text_leaves ts)) in
    let whole : leaves_of (text_of p) ≡ all =
    program_leaves p c.as_slice.result.now c.as_slice-2.result.now c.as_slice-3.result.now zs ts c.as_slice.ensures c.as_slice-2.ensures c.as_slice-3.ensures
    c.requires.numbers c.requires.texts in
    let written =
    four_leaves (record { bytes = c.new.result; row = 1 }) c.write_vars.new.defaults c.write_returns.new.defaults c.write_numbers.new.defaults
    c.write_texts.new.defaults first second (flat_map constant_leaves zs) (flat_map text_leaves ts) c.in_ok-write_vars.ensures c.in_ok-write_returns.ensures
    c.in_ok-write_numbers.ensures c.in_ok-write_texts.ensures in
    let row = ap (λ d. d.row) written in
    let count = ap array_count whole in
    record {
      bytes = ap (λ d. d.bytes) written ∙ ap (λ l. l ++ defaults_from 1 all) c.new.ensures ∙ ap (defaults_from 1) (sym whole);
      rows = omega (arith, row, count);
    }
