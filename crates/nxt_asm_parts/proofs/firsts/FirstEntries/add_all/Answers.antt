use Rattle.std.proofs.Common.{◌≡◌, arith, ◌∷◌, ◌++◌, [], replicate, ap, ◌∙◌, append_assoc, append-nil, sym}
use Rattle.std.proofs.lemmas.List.{replicate_more}
use Rattle.nxt_asm_parts.specs.Firsts.{firsts_of}
use Rattle.nxt_asm_parts.proofs.firsts.FirstEntries.add_all.Goals as goal

pub loop-init : goal.loop-init
loop-init c = λ ss s size_is is. is ∙ ap firsts_of (sym (append-nil ss))

pub loop-preserved : goal.loop-preserved
loop-preserved c = λ ss s size_is is.
    let had = replicate c.loop.counter s in
    c.in_ok-add.ensures (ss ++ had) s size_is (c.loop.invariant ss s size_is is)
    ∙ ap firsts_of (append_assoc ss had (s ∷ []) ∙ ap (λ l. ss ++ l) (replicate_more c.loop.counter s))

pub returns : goal.returns
returns c = λ ss s size_is is.
    let whole : c.loop.counter ≡ c.args.count = omega (arith, c.loop-test.false, c.loop.auto) in
    c.loop.invariant ss s size_is is ∙ ap (λ n. firsts_of (ss ++ replicate n s)) whole
