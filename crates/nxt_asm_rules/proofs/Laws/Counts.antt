-- What all variables and constants of a program take together, and how many of them there are.
use Rattle.std.proofs.Common.{◌≡◌, ℕ, suc, ◌+◌, List, [], ◌∷◌, map, length, drop, refl, sym, ap, ◌∙◌, arith, length-append}
use Rattle.std.specs.Prelude.{sum_by}
use Rattle.std.proofs.lemmas.List.{length-map}
use Rattle.std.proofs.lemmas.List.Sums.{sum_by-cons}
use Rattle.nxt_types.specs.Opcodes.{Arity, arity, exactly, several, pairs}
use Rattle.nxt_types.specs.Shapes.{Shape, Void, Number, Array, Cluster, Mutex, Members, no_members, member, cluster_of, leaf_bytes}
use Rattle.nxt_types.specs.Names.{size, sizes}
use Rattle.nxt_types.specs.Statements.{long_words}
use Rattle.nxt_types.specs.declared.instr.Op.{Op}
use Rattle.nxt_types.specs.declared.kind.Cmp.{Cmp}
use Rattle.nxt_model.specs.Assembled.{all_entries, all_shapes, arg_word, block_words, body_words, code_from, code_op, entries_of, leaf_sizes, places, records_from, starts_from, statement_words, word_count}
use Rattle.nxt_model.specs.TextProgram.{Text, static_size}
use Rattle.nxt_model.specs.declared.nbc.NbcBlock.{NbcBlock}
use Rattle.nxt_model.specs.declared.nbc.NbcStatement.{NbcStatement}
use Rattle.nxt_asm_rules.proofs.Laws.DataSizes.{static_is}
use Rattle.nxt_asm_laws.proofs.Laws.Blocks.{arity-code_op}
use Rattle.nxt_asm_rules.proofs.Laws.Sums.{leaves_bytes-members}

-- ---- sums

-- the leaves of all variables and constants take the static bytes
pub static_sum : (p : Text) → leaf_bytes (cluster_of (all_shapes p)) ≡ static_size p
static_sum p = leaves_bytes-members (all_shapes p) ∙ static_is p

-- ---- lengths

-- an entry for each entry of the shapes
mutual
  pub entries_length : (s : Shape) (ps : List ℕ) → length (entries_of s ps) ≡ size s
  entries_length Void ps = refl
  entries_length (Number k) ps = refl
  entries_length (Array stride s) ps = omega (arith, entries_length s (places (leaf_sizes s)))
  entries_length (Cluster ss) ps = omega (arith, table_length ss ps)
  entries_length Mutex ps = refl

  pub table_length : (ss : Members) (ps : List ℕ) → length (all_entries ss ps) ≡ sizes ss
  table_length no_members ps = refl
  table_length (member s ss) ps =
      omega (
        arith,
        length-append (entries_of s ps) (all_entries ss (drop (length (leaf_sizes s)) ps)),
        entries_length s ps,
        table_length ss (drop (length (leaf_sizes s)) ps),
      )

-- a record for each block
pub records_length : (here : ℕ) (bs : List NbcBlock) → length (records_from here bs) ≡ length bs
records_length here [] = refl
records_length here (b ∷ bs) = ap suc (records_length (here + block_words b) bs)

-- the words of a statement are as many as its operands ask for
long_length : (a : Arity) (o p : Op) (c d : Cmp) (ws vs : List ℕ) → length ws ≡ length vs → length (long_words a o c ws) ≡ length (long_words a p d vs)
long_length (exactly n) o p c d ws vs same = ap suc same
long_length several o p c d ws vs same = omega (arith, same)
long_length pairs o p c d ws vs same = omega (arith, same)

pub statement_length : (p : Text) (at : List ℕ) (here : ℕ) (s : NbcStatement) → length (statement_words p at here s) ≡ word_count s
statement_length p at here s =
    let op : Op = code_op s.op s.args in
    let ws : List ℕ = map (arg_word p at here) s.args in
    let zeros : List ℕ = map (λ a. 0) s.args in
    let same : length ws ≡ length zeros = length-map s.args (arg_word p at here) ∙ sym (length-map s.args (λ a. 0)) in
    ap (λ a. length (long_words a op s.cmp ws)) (arity-code_op s.op s.args) ∙ long_length (arity s.op) op s.op s.cmp s.cmp ws zeros same

body_length : (p : Text) (at : List ℕ) (here : ℕ) (ss : List NbcStatement) → length (body_words p at here ss) ≡ sum_by word_count ss
body_length p at here [] = refl
body_length p at here (s ∷ ss) =
    omega (
      arith,
      length-append (statement_words p at here s) (body_words p at (here + word_count s) ss),
      statement_length p at here s,
      body_length p at (here + word_count s) ss,
      sum_by-cons word_count s ss,
    )

pub code_length : (p : Text) (here : ℕ) (bs : List NbcBlock) → length (code_from p here bs) ≡ sum_by block_words bs
code_length p here [] = refl
code_length p here (b ∷ bs) =
    omega (
      arith,
      length-append (body_words p (starts_from here b.body) here b.body) (code_from p (here + block_words b) bs),
      body_length p (starts_from here b.body) here b.body,
      code_length p (here + block_words b) bs,
      sum_by-cons block_words b bs,
    )
