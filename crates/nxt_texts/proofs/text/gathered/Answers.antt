-- A text is the list of its bytes, and no longer than the pool.
use Rattle.std.proofs.Common.{◌≡◌, ◌≤◌, All, map, length, sym, ap, ◌∙◌, subst}
use Rattle.std.proofs.lemmas.Result.{IfOk-weaker}
use Rattle.nxt_types.specs.Arithmetic.{word}
use Rattle.nxt_types.specs.Pool.{pool_size}
use Rattle.nxt_texts.specs.Texts.{IsByte, text_at}
use Rattle.nxt_texts.proofs.Texts.{is_text_there}
use Rattle.nxt_texts.proofs.text.gathered.Goals as goal

pub numbers_of-requires-clause-list : goal.numbers_of-requires-clause-list
numbers_of-requires-clause-list c =
    (is_text_there c.args.space.now.vars c.args.i c.requires.sound c.requires.named c.requires.text).numbers

pub bytes_from-requires : goal.bytes_from-requires
bytes_from-requires c =
    let there = is_text_there c.args.space.now.vars c.args.i c.requires.sound c.requires.named c.requires.text in
    subst (All IsByte) (sym (c.as_slice.ensures ∙ c.in_ok-numbers.ensures)) there.are_bytes

pub returns-clause-bytes : goal.returns-clause-bytes
returns-clause-bytes c =
    let there = is_text_there c.args.space.now.vars c.args.i c.requires.sound c.requires.named c.requires.text in
    IfOk-weaker
    c.bytes_from.result
    (λ bytes. bytes ≡ map word c.as_slice.result.now)
    (λ bytes. bytes ≡ text_at c.args.space.now.vars c.args.i)
    (λ bytes is. is ∙ ap (map word) (c.as_slice.ensures ∙ c.in_ok-numbers.ensures) ∙ there.bytes)
    c.bytes_from.ensures

pub returns-clause-few : goal.returns-clause-few
returns-clause-few c =
    let there = is_text_there c.args.space.now.vars c.args.i c.requires.sound c.requires.named c.requires.text in
    IfOk-weaker
    c.bytes_from.result
    (λ bytes. bytes ≡ map word c.as_slice.result.now)
    (λ bytes. length bytes ≤ pool_size)
    (λ bytes is. subst (λ bs. length bs ≤ pool_size) (sym (is ∙ ap (map word) (c.as_slice.ensures ∙ c.in_ok-numbers.ensures) ∙ there.bytes)) there.few)
    c.bytes_from.ensures
