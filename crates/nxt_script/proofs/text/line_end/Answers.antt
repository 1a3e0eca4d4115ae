use Rattle.std.proofs.Common.{◌≡◌, ℕ, ◌≤◌, None, Some, cond, ltb, length, tests, rules, ap, ◌∙◌, arith}
use Rattle.std.specs.Prelude.{not, unwrap_or}
use Rattle.std.specs.List.{position_or_len}
use Rattle.std.proofs.lemmas.Iterator.{YieldsList-from_slice}
use Rattle.std.proofs.lemmas.Iterator.Search.{position_from_yields_List}
use Rattle.std.proofs.lemmas.Bool.Decides.{nat_tests}
use Rattle.std.proofs.lemmas.List.Sums.{prefix_len-le-length}
use Rattle.nxt_script.specs.Rows.{ends_line}
use Rattle.nxt_script.proofs.text.line_end.Goals as goal

or_all : (n size : ℕ) → n ≤ size → unwrap_or (cond (ltb n size) (Some n) None) size ≡ n
or_all n size le = grind (arith, nat_tests)

pub returns : goal.returns
returns c =
    let bytes = c.args.bytes.now in
    let found = position_from_yields_List ends_line _ _ c.position.result c.position.ensures.ran (YieldsList-from_slice bytes cc) (λ x b q k. search (rules, tests)) in
    c.unwrap_or.ensures ∙ ap (λ o. unwrap_or o (length bytes)) found
    ∙ or_all (position_or_len ends_line bytes) (length bytes) (prefix_len-le-length (λ b. not (ends_line b)) bytes)
