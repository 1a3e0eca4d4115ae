use Rattle.std.proofs.Common.{◌-◌, length, drop, take, arith}
use Rattle.std.proofs.lemmas.List.{length-take}
use Rattle.std.proofs.lemmas.List.Sums.{prefix_len-le-length}
use Rattle.nxt_model.specs.Nbc.Tokens.{is_hex_digit}
use Rattle.nxt_nbc_lines.proofs.pieces.numeral_len.Goals as goal

pub overflow_add-result : goal.overflow_add-result
overflow_add-result c =
    let bytes = c.args.bytes.now in
    omega (arith, prefix_len-le-length is_hex_digit (take (length bytes - 2) (drop 2 bytes)), length-take (length bytes - 2) (drop 2 bytes))
