-- Pairs of numbers by their words.
use Rattle.std.proofs.Common.{subst}
use Rattle.std.proofs.lemmas.Result.{IfOk-weaker}
use Rattle.nxt_ops.specs.Sides.{IsSide}
use Rattle.nxt_ops.proofs.ByWords.{lists_beside, number_behind, number_before}
use Rattle.nxt_ops.proofs.in_place.combined_words.Goals as goal

pub returns-in-List-List-clause-words : goal.returns-in-List-List-clause-words
returns-in-List-List-clause-words c i j first second =
    let s = c.args.space.now.vars in
    let mine = subst (IsSide s i) c.in-List-List.is-0 first in
    let theirs = subst (IsSide s j) c.in-List-List.is-1 second in
    IfOk-weaker
    c.words_of_lists.result _ _
    (λ ws is. lists_beside s c.args.operator c.args.signed i j c.in-List-List.x c.in-List-List.y ws.items mine theirs is)
    (c.words_of_lists.ensures.words i j mine theirs)

pub returns-in-List-Number-clause-words : goal.returns-in-List-Number-clause-words
returns-in-List-Number-clause-words c i j first second =
    let s = c.args.space.now.vars in
    let mine = subst (IsSide s i) c.in-List-Number.is-0 first in
    let theirs = subst (IsSide s j) c.in-List-Number.is-1 second in
    IfOk-weaker
    c.words_with_last.result _ _
    (λ ws is. number_behind s c.args.operator c.args.signed i j c.in-List-Number.x c.in-List-Number.y ws.items mine theirs is)
    (c.words_with_last.ensures.words i j mine theirs)

pub returns-in-Number-List-clause-words : goal.returns-in-Number-List-clause-words
returns-in-Number-List-clause-words c i j first second =
    let s = c.args.space.now.vars in
    let mine = subst (IsSide s i) c.in-Number-List.is-0 first in
    let theirs = subst (IsSide s j) c.in-Number-List.is-1 second in
    IfOk-weaker
    c.words_with_first.result _ _
    (λ ws is. number_before s c.args.operator c.args.signed i j c.in-Number-List.x c.in-Number-List.y ws.items mine theirs is)
    (c.words_with_first.ensures.words i j mine theirs)
