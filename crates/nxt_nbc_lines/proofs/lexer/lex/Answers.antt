use Rattle.std.proofs.Common.{◌≡◌, ℕ, ◌+◌, ◌-◌, ◌≤◌, ◌<◌, List, ◌++◌, length, take, drop, Some, sym, ap, ◌∙◌, subst, arith}
use Rattle.std.proofs.lemmas.List.{append-nil, length-drop, length-take-le, take_rest}
use Rattle.std.proofs.lemmas.List.Sums.{count_by-le-length}
use Rattle.std.specs.Prelude.{◌==◌}
use Rattle.nxt_model.specs.Nbc.Tokens.{Piece, Token, line_feeds, piece_at}
use Rattle.nxt_nbc_lines.proofs.TokensLaw.{IsSoFar, piece-lies, so_far-fault, so_far-piece, so_far-start, token_if}
use Rattle.nxt_nbc_lines.proofs.lexer.lex.Goals as goal
use Rattle.nxt_nbc_lines.proofs.lexer.lex.Goals.{then-piece+in_ok-push, else-piece}

-- `rest` is what is left of the text
at_rest : (text : List ℕ) (at : ℕ) → piece_at (drop at text) ≡ piece_at (take (length text - at) (drop at text))
at_rest text at = ap piece_at (sym (take_rest text at))

the_piece : (text : List ℕ) (at : ℕ) (p q : Piece) → Some p ≡ piece_at (take (length text - at) (drop at text)) → q ≡ p → piece_at (drop at text) ≡ Some q
the_piece text at p q e v = at_rest text at ∙ sym e ∙ ap (λ x. Some x) (sym v)

lies : (text : List ℕ) (at : ℕ) (p q : Piece) → at < length text → Some p ≡ piece_at (take (length text - at) (drop at text)) → q ≡ p → (1 ≤ q.1) × (at + q.1 ≤ length text)
lies text at p q lt e v = piece-lies text at q lt (the_piece text at p q e v)

pub loop-at-init : goal.loop-at-init
loop-at-init c = record {
  within = omega arith;
  few_lines = omega arith;
  tokens = subst (λ (ts : List Token). IsSoFar c.args.text.now ts 1 0) (sym c.new-tokens.ensures) (so_far-start c.args.text.now);
}

pub returns-in_default-clause-fault : goal.returns-in_default-clause-fault
returns-in_default-clause-fault c =
    so_far-fault c.args.text.now c.loop-at.tokens c.loop-at.line c.loop-at.at c.loop-at.invariant.tokens c.loop-at-test.true
    (at_rest c.args.text.now c.loop-at.at ∙ sym c.in_default.ensures)

pub overflow_cast-piece-inside : goal.overflow_cast-piece-inside
overflow_cast-piece-inside c =
    omega (arith, lies c.args.text.now c.loop-at.at c.in-Some.piece (c.piece.inside.is_token, c.piece.inside.len) c.loop-at-test.true c.in-Some.ensures c.piece.view_is)

pub slice_bounds-line_feeds-end : goal.slice_bounds-line_feeds-end
slice_bounds-line_feeds-end c =
    let text = c.args.text.now in
    let at = c.loop-at.at in
    let n = c.piece.inside.len in
    let l = lies text at c.in-Some.piece (c.piece.inside.is_token, n) c.loop-at-test.true c.in-Some.ensures c.piece.view_is in
    let fits : n ≤ length (take (length text - at) (drop at text)) = subst (λ (xs : List ℕ). n ≤ length xs) (sym (take_rest text at)) (omega (arith, l.1, length-drop at text)) in
    sym (length-take-le n (take (length text - at) (drop at text)) fits)

pub overflow_add-at : goal.overflow_add-at
overflow_add-at c =
    omega (arith, lies c.args.text.now c.loop-at.at c.in-Some.piece (c.piece.inside.is_token, c.piece.inside.len) c.loop-at-test.true c.in-Some.ensures c.piece.view_is)

pub loop-at-smaller : goal.loop-at-smaller
loop-at-smaller c =
    omega (arith, lies c.args.text.now c.loop-at.at c.in-Some.piece (c.piece.inside.is_token, c.piece.inside.len) c.loop-at-test.true c.in-Some.ensures c.piece.view_is)

-- a piece has no more line feeds than bytes
few_feeds : (text : List ℕ) (at n feeds : ℕ) → feeds ≡ line_feeds (take n (drop at text)) → at + n ≤ length text → feeds ≤ n
few_feeds text at n feeds e le =
    let size : length (take n (drop at text)) ≡ n = length-take-le n (drop at text) (omega (arith, length-drop at text)) in
    omega (arith, e, size, count_by-le-length (λ b. b == 10) (take n (drop at text)))

pub loop-at-preserved : goal.loop-at-preserved
loop-at-preserved c =
    let text = c.args.text.now in
    let at = c.loop-at.at in
    let line = c.loop-at.line in
    let b = c.piece.inside.is_token in
    let n = c.piece.inside.len in
    let t : Token = record { line = line; at = at; len = n } in
    let e = the_piece text at c.in-Some.piece (b, n) c.in-Some.ensures c.piece.view_is in
    let l = lies text at c.in-Some.piece (b, n) c.loop-at-test.true c.in-Some.ensures c.piece.view_is in
    let feeds : c.line_feeds.result ≡ line_feeds (take n (drop at text)) = c.line_feeds.ensures ∙ ap (λ xs. line_feeds (take n xs)) (take_rest text at) in
    let few : c.line_feeds.result ≤ n = few_feeds text at n c.line_feeds.result feeds l.1 in
    let more : c.if-piece.tokens ≡ c.loop-at.tokens ++ token_if b t =
    elim c.if-piece.branch [
      | then-piece+in_ok-push w ↦ w.tokens-is ∙ w.in_ok-push.ensures.ok ∙ sym (ap (λ x. c.loop-at.tokens ++ token_if x t) w.if-piece.true)
      | else-piece w ↦ w.tokens-is ∙ sym (ap (λ x. c.loop-at.tokens ++ token_if x t) w.if-piece.false ∙ append-nil c.loop-at.tokens)
    ] in
    record {
      within = l.1;
      few_lines = omega arith;
      tokens = subst (λ (ts : List Token). IsSoFar text ts (line + c.line_feeds.result) (at + n)) (sym more)
          (subst (λ (k : ℕ). IsSoFar text (c.loop-at.tokens ++ token_if b t) (line + k) (at + n)) (sym feeds)
          (so_far-piece text c.loop-at.tokens line at b n c.loop-at.invariant.tokens c.loop-at-test.true e l.0));
    }
