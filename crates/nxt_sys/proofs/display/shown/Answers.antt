-- No byte behind the first 64 is looked at.
use Rattle.std.proofs.Common.{◌≡◌, take, length, ap, ◌∙◌}
use Rattle.std.specs.Prelude.{not, ◌==◌}
use Rattle.std.specs.List.{take_while}
use Rattle.std.proofs.Math.Nat.{min_comm}
use Rattle.std.proofs.lemmas.List.{take_min}
use Rattle.nxt_sys.proofs.Drawn.{passes_in_front}
use Rattle.nxt_sys.proofs.display.shown.Goals as goal

pub returns : goal.returns
returns c =
    let text = c.args.text.now in
    let front : take c.min.result text ≡ take 64 text = ap (λ n. take n text) c.min.ensures ∙ ap (λ n. take n text) (min_comm (length text) 64) ∙ take_min 64 text in
    ap (λ n. take n (take c.min.result text)) c.zero_at.ensures.place
    ∙ ap (take_while (λ b. not (b == 0))) front
    ∙ passes_in_front (λ b. not (b == 0)) 64 text
