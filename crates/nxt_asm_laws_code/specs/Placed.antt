-- The statements of a program's code, each with its word.
use Rattle.std.specs.Prelude.{ℕ, ◌+◌, List, [], ◌∷◌, ◌++◌, map}
use Rattle.nxt_types.specs.Statements.{Statement, statement}
use Rattle.nxt_model.specs.declared.nbc.NbcBlock.{NbcBlock}
use Rattle.nxt_model.specs.declared.nbc.NbcStatement.{NbcStatement}
use Rattle.nxt_model.specs.Assembled.{arg_word, block_words, code_op, starts_from, word_count}
use Rattle.nxt_model.specs.TextProgram.{Text}

-- the statement that a statement's words spell
abbrev pub spelled : Text → List ℕ → ℕ → NbcStatement → Statement
spelled p at here s = statement (code_op s.op s.args) s.cmp (map (arg_word p at here) s.args)

-- those of a block
abbrev pub placed_body : Text → List ℕ → ℕ → List NbcStatement → List (ℕ × Statement)
placed_body p at here [] = []
placed_body p at here (s ∷ ss) = (here, spelled p at here s) ∷ placed_body p at (here + word_count s) ss

-- those of blocks that stand one after another from a word on
abbrev pub placed_from : Text → ℕ → List NbcBlock → List (ℕ × Statement)
placed_from p here [] = []
placed_from p here (b ∷ bs) = placed_body p (starts_from here b.body) here b.body ++ placed_from p (here + block_words b) bs
