-- The statements of a program's code are those of its blocks.
use Rattle.std.proofs.Common.{◌≡◌, ℕ, zero, suc, ◌+◌, ◌≤◌, true, Option, Some, List, [], ◌∷◌, ◌++◌, map, length, drop, All, refl, sym, ap, subst, ◌∙◌, arith, length-append, append_assoc}
use Rattle.std.specs.Prelude.{sum_by}
use Rattle.std.proofs.lemmas.List.{drop_at, length-map}
use Rattle.std.proofs.lemmas.List.Elements.{All-head, All-tail}
use Rattle.std.proofs.lemmas.List.Sums.{sum_by-cons}
use Rattle.nxt_types.specs.Opcodes.{Arity, arity, exactly, several, pairs, takes}
use Rattle.nxt_types.specs.Statements.{Statement, Spelled, long_words, next_statements, statement_at, statements, statements_from}
use Rattle.nxt_types.specs.declared.instr.Op.{Op}
use Rattle.nxt_types.specs.declared.kind.Cmp.{Cmp}
use Rattle.nxt_instr.proofs.Laws.LongForms.{long_form_read}
use Rattle.nxt_model.specs.declared.nbc.NbcBlock.{NbcBlock}
use Rattle.nxt_model.specs.declared.nbc.NbcStatement.{NbcStatement}
use Rattle.nxt_model.specs.Assembled.{arg_word, block_words, body_words, code_from, code_op, starts_from, statement_words, word_count}
use Rattle.nxt_model.specs.TextProgram.{Text}
use Rattle.nxt_asm_parts.specs.Codable.{IsCodable, IsCodableBlock}
use Rattle.nxt_asm_rules.proofs.Laws.Counts.{statement_length}
use Rattle.nxt_asm_laws_code.specs.Placed.{placed_body, placed_from, spelled}

-- ---- lengths

some_words : (a : Arity) (op : Op) (c : Cmp) (ws : List ℕ) → 1 ≤ length (long_words a op c ws)
some_words (exactly n) op c ws = omega arith
some_words several op c ws = omega arith
some_words pairs op c ws = omega arith

-- a statement has at least one word
pub word_count_positive : (s : NbcStatement) → 1 ≤ word_count s
word_count_positive s = some_words (arity s.op) s.op s.cmp (map (λ a. 0) s.args)

-- ---- statements

-- a statement's words spell it, whatever follows
pub statement_read : (p : Text) (at : List ℕ) (here : ℕ) (s : NbcStatement) (more : List ℕ) → IsCodable s
    → statement_at (statement_words p at here s ++ more) ≡ Some (spelled p at here s, word_count s)
statement_read p at here s more h =
    let op : Op = code_op s.op s.args in
    let ws : List ℕ = map (arg_word p at here) s.args in
    let many : length ws ≡ length s.args = length-map s.args (arg_word p at here) in
    long_form_read op s.cmp ws more (subst (λ n. takes (arity op) n ≡ true) (sym many) h.number) h.plain
    ∙ ap (λ n. Some (spelled p at here s, n)) (statement_length p at here s)

-- what stands behind a statement
pub behind_statement : (p : Text) (at : List ℕ) (here : ℕ) (s : NbcStatement) (more : List ℕ) → drop (word_count s) (statement_words p at here s ++ more) ≡ more
behind_statement p at here s more = drop_at (statement_words p at here s) more (word_count s) (statement_length p at here s)

-- where the statements that follow are known
abbrev Follow : ℕ → List ℕ → List (ℕ × Statement) → Type 0
Follow here more rest = (m : ℕ) → length more ≤ m → statements_from m here more ≡ rest

-- the statements of a body, and of blocks
body_decoded : (p : Text) (at : List ℕ) (ss : List NbcStatement) (here : ℕ) (more : List ℕ) (rest : List (ℕ × Statement)) → All IsCodable ss
    → Follow (here + sum_by word_count ss) more rest → Follow here (body_words p at here ss ++ more) (placed_body p at here ss ++ rest)
body_decoded p at [] here more rest all follow m le =
    let same : here ≡ here + 0 = omega arith in
    ap (λ h. statements_from m h more) same ∙ follow m le
body_decoded p at (s ∷ ss) here more rest all follow zero le =
    let words : List ℕ = statement_words p at here s in
    let tail : List ℕ = body_words p at (here + word_count s) ss in
    let some = word_count_positive s in
    let own = statement_length p at here s in
    let one = length-append (words ++ tail) more in
    let two = length-append words tail in
    absurd (omega (arith, le, one, two, own, some))
body_decoded p at (s ∷ ss) here more rest all follow (suc m) le =
    let words : List ℕ = statement_words p at here s in
    let tail : List ℕ = body_words p at (here + word_count s) ss in
    let some = word_count_positive s in
    let own = statement_length p at here s in
    let one = length-append (words ++ tail) more in
    let two = length-append words tail in
    let three = length-append tail more in
    let next : ℕ → List ℕ → ℕ → List (ℕ × Statement) = λ k ws n. statements_from k (here + n) (drop n ws) in
    let sum = sum_by-cons word_count s ss in
    let place : here + word_count s + sum_by word_count ss ≡ here + sum_by word_count (s ∷ ss) = omega (arith, sum) in
    let later : Follow (here + word_count s) (tail ++ more) (placed_body p at (here + word_count s) ss ++ rest) =
    body_decoded p at ss (here + word_count s) more rest (All-tail IsCodable s ss all) (subst (λ h. Follow h more rest) (sym place) follow) in
    ap (λ ws. statements_from (suc m) here ws) (append_assoc words tail more)
    ∙ ap (λ (o : Option Spelled). next_statements o here (next m (words ++ (tail ++ more)))) (statement_read p at here s (tail ++ more) (All-head IsCodable s ss all))
    ∙ ap (λ ws. (here, spelled p at here s) ∷ statements_from m (here + word_count s) ws) (behind_statement p at here s (tail ++ more))
    ∙ ap (λ l. (here, spelled p at here s) ∷ l) (later m (omega (arith, le, one, two, three, own, some)))

-- ---- blocks

blocks_decoded : (p : Text) (bs : List NbcBlock) (here : ℕ) → All IsCodableBlock bs → Follow here (code_from p here bs) (placed_from p here bs)
blocks_decoded p [] here all zero le = refl
blocks_decoded p [] here all (suc m) le = refl
blocks_decoded p (b ∷ bs) here all m le =
    body_decoded p (starts_from here b.body) b.body here (code_from p (here + block_words b) bs) (placed_from p (here + block_words b) bs) (All-head IsCodableBlock b bs all)
    (blocks_decoded p bs (here + block_words b) (All-tail IsCodableBlock b bs all)) m le

-- the statements of a program's code
pub statements-code_from : (p : Text) (bs : List NbcBlock) → All IsCodableBlock bs → statements (code_from p 0 bs) ≡ placed_from p 0 bs
statements-code_from p bs all = let whole : length (code_from p 0 bs) ≤ length (code_from p 0 bs) = omega arith in blocks_decoded p bs 0 all (length (code_from p 0 bs)) whole
