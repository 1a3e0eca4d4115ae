use Rattle.std.proofs.Common.{ℕ, ◌≤◌, ◌-◌, Option, length, drop, take, subst, sym, arith}
use Rattle.std.specs.Prelude.{IfSome, not, ◌==◌}
use Rattle.std.proofs.lemmas.List.{length-drop, length-take}
use Rattle.std.proofs.lemmas.List.Sums.{prefix_len-le-length}
use Rattle.nxt_nbc_lines.proofs.PieceLengths.{comment_len-le}
use Rattle.nxt_nbc_lines.proofs.pieces.slash_piece.Goals as goal

pub overflow_add-line_len : goal.overflow_add-line_len
overflow_add-line_len c = omega (arith, prefix_len-le-length (λ b. not (b == 10)) c.args.rest.now)

pub overflow_add-branch : goal.overflow_add-branch
overflow_add-branch c =
    let n = c.in_ok-comment_len-in-42.field-0 in
    let inside = take (length c.args.rest.now - 1) (drop 1 c.args.rest.now) in
    let le : n ≤ length inside = subst (λ (o : Option ℕ). IfSome o (λ n. n ≤ length inside)) (sym c.in_ok-comment_len-in-42.ensures) (comment_len-le inside) in
    omega (arith, length-take (length c.args.rest.now - 1) (drop 1 c.args.rest.now), length-drop 1 c.args.rest.now)
