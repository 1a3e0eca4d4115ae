use Rattle.std.proofs.Common.{◌∙◌, ◌+◌, take, drop, ◌++◌, [], ap, sym}
use Rattle.std.proofs.lemmas.List.{drop-drop}
use Rattle.nxt_edge.proofs.Laws.{drop_step, rest_is}
use Rattle.nxt_edge.proofs.mem.MemSourceSource.read.Goals as goal

pub returns-clause-bytes : goal.returns-clause-bytes
returns-clause-bytes c =
    let at = c.args.self.now.at in
    let n = c.copy_front-count.result in
    let xs = c.args.self.now.bytes.items in
    let whole = rest_is c.deref-2.result.now xs at c.deref-2.ensures.value in (
      drop_step at n xs ∙ ap (λ l. l ++ drop (at + n) xs) (sym (c.copy_front-count.ensures.same ∙ ap (λ l. take n l) whole)),
      λ z some. sym (drop-drop n at xs) ∙ (ap (λ l. drop n l) (sym whole ∙ c.copy_front-count.ensures.some z some) ∙ ap (λ k. drop k []) z),
    )
