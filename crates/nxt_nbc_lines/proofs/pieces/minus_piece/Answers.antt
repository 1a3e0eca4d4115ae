use Rattle.std.proofs.Common.{arith}
use Rattle.nxt_nbc_lines.proofs.PieceLengths.{numeral_len-le}
use Rattle.nxt_nbc_lines.proofs.pieces.minus_piece.Goals as goal

pub overflow_add-numeral_len : goal.overflow_add-numeral_len
overflow_add-numeral_len c = omega (arith, numeral_len-le c.args.rest.now)
