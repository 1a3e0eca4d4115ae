-- The least line of the statements before this one.
use Rattle.std.proofs.Common.{◌≡◌, ℕ, take}
use Rattle.nxt_model.specs.Assembled.{starts_from}
use Rattle.nxt_asm_rules.specs.AsmRules.{far_in_body}
use Rattle.nxt_nbc_lines.specs.Firsts.{IsLeast}
use Rattle.nxt_asm.proofs.jumps.far_in_body.Given as goal

abbrev pub invariant-loop-j : goal.invariant-loop-j
invariant-loop-j l = (here : ℕ) → l.at ≡ starts_from here l.body → IsLeast (λ line. far_in_body line l.at here (take l.j l.body)) l.found
