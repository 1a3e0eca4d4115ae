-- What holds of each statement that is spelled.
use Rattle.std.proofs.Common.{◌≡◌, ◌≤◌, ℕ, zero, suc, ◌+◌, ◌-◌, ◌*◌, ◌/◌, ◌%◌, ◌==◌, nat_le, Bool, true, false, ◌&&◌, if◌then◌else◌, List, [], ◌∷◌, length, take, drop, refl, sym, ap, subst, ◌∙◌, Option, Some, None, arith}
use Rattle.std.specs.Prelude.{option_and_then, slice_get, slice_range}
use Rattle.std.proofs.lemmas.Bool.Decides.{nat_tests}
use Rattle.std.proofs.lemmas.List.{length-take-le, length-drop, drop-drop, take_rest}
use Rattle.nxt_types.specs.declared.kind.Cmp.{Cmp}
use Rattle.nxt_types.specs.declared.kind.Cmp.TheVariants.{Lt}
use Rattle.nxt_types.specs.declared.instr.Op.{Op}
use Rattle.nxt_types.specs.declared.instr.Op.TheVariants as ops
use Rattle.nxt_types.specs.declared.instr.Instr.{Instr}
use Rattle.nxt_types.specs.Opcodes.{op_of, Arity, exactly, several, pairs, arity, takes, has_comparison}
use Rattle.nxt_types.specs.Statements.{Statement, statement, Spelled, with_words, short_form, short_forms, two, one, short_pair, plus_argument, sized_form, fixed_form, by_arity, comparisons, comparison_of, long_form, statement_at, args_of, statement_of}
use Rattle.nxt_types.proofs.Laws.Opcodes.{few_operands}
use Rattle.nxt_instr.specs.Decoded.{operand, instr_by, instr_of, decoded, form_by}

-- the others of the operands are the words behind the first two
abbrev pub HasOthers : Arity → List ℕ → Statement → ℕ → Type 0
HasOthers (exactly k) front s n = Unit {0}
HasOthers several front s n = (s.args ≡ take (length s.args) (drop 2 front)) × (n ≡ 2 + length s.args)
HasOthers pairs front s n = (s.args ≡ take (length s.args) (drop 2 front)) × (n ≡ 2 + length s.args)

-- a statement that takes the first n words
pub record LiesIn (front : List ℕ) (s : Statement) (n : ℕ) : Type 0 where
  pub some : 1 ≤ n
  pub within : n ≤ length front
  pub number : takes (arity s.op) (length s.args) ≡ true
  pub plain : has_comparison s.op ≡ false → s.cmp ≡ Lt
  pub others : HasOthers (arity s.op) front s n

abbrev EachLiesIn : List ℕ → Option Spelled → Type 0
EachLiesIn front None = Unit {0}
EachLiesIn front (Some s) = LiesIn front s.0 s.1

lies_test : (front : List ℕ) (b : Bool) (o : Option Spelled) → (b ≡ true → EachLiesIn front o) → EachLiesIn front (if b then o else None)
lies_test front true o h = h refl
lies_test front false o h = tt

lies_words : (front : List ℕ) (n : ℕ) (words : List ℕ) (before : ℕ) (make : List ℕ → Statement) → (n ≤ length words → LiesIn front (make (take n words)) (before + n)) → EachLiesIn front (with_words n words before make)
lies_words front n words before make h =
    lies_test front (nat_le n (length words)) (Some (make (take n words), before + n)) (λ e. h (let l : n ≤ length words = grind (arith, nat_tests, e) in l))

-- ---- fixed sizes

as_many : (n : ℕ) (xs : List ℕ) → length xs ≡ n → takes (exactly n) (length xs) ≡ true
as_many n xs e = grind (arith, nat_tests, e)

fixed_number : (op : Op) (n : ℕ) (args : List ℕ) → arity op ≡ exactly n → length args ≡ n → takes (arity op) (length args) ≡ true
fixed_number op n args e l = ap (λ a. takes a (length args)) e ∙ as_many n args l

no_others : (op : Op) (n k : ℕ) (front : List ℕ) (s : Statement) → arity op ≡ exactly n → HasOthers (arity op) front s k
no_others op n k front s e = subst (λ (a : Arity). HasOthers a front s k) (sym e) tt

lies_fixed : (op : Op) (cmp : Cmp) (n bytes first : ℕ) (rest : List ℕ) → arity op ≡ exactly n → (has_comparison op ≡ false → cmp ≡ Lt) → EachLiesIn (first ∷ rest) (fixed_form op cmp n bytes rest)
lies_fixed op cmp n bytes first rest e plain =
    lies_test (first ∷ rest) (bytes == 2 + 2 * n) (with_words n rest 1 (statement op cmp)) (λ _. lies_words (first ∷ rest) n rest 1 (statement op cmp) (λ l. record {
      some = omega arith;
      within = omega arith;
      number = fixed_number op n (take n rest) e (length-take-le n rest l);
      plain = plain;
      others = no_others op n (1 + n) (first ∷ rest) (statement op cmp (take n rest)) e;
    }))

lies_two : (op : Op) (bytes byte first : ℕ) (rest : List ℕ) → arity op ≡ exactly 2 → EachLiesIn (first ∷ rest) (short_form (Some (two op)) bytes byte rest)
lies_two op bytes byte first [] e = lies_test (first ∷ []) (bytes == 4) None (λ _. tt)
lies_two op bytes byte first (x ∷ xs) e =
    let make : List ℕ → Statement = λ ws. statement op Lt (short_pair op byte ws) in
    lies_test (first ∷ x ∷ xs) (bytes == 4) (with_words 1 (x ∷ xs) 1 make) (λ _. lies_words (first ∷ x ∷ xs) 1 (x ∷ xs) 1 make (λ l. record {
      some = omega arith;
      within = omega arith;
      number = fixed_number op 2 (plus_argument byte x ∷ x ∷ []) e refl;
      plain = λ _. refl;
      others = no_others op 2 2 (first ∷ x ∷ xs) (statement op Lt (plus_argument byte x ∷ x ∷ [])) e;
    }))

lies_one : (op : Op) (bytes byte first : ℕ) (rest : List ℕ) → arity op ≡ exactly 1 → EachLiesIn (first ∷ rest) (short_form (Some (one op)) bytes byte rest)
lies_one op bytes byte first rest e =
    let args = plus_argument byte 0 ∷ [] in
    lies_test (first ∷ rest) (bytes == 2) (Some (statement op Lt args, 1)) (λ _. record {
      some = omega arith;
      within = omega arith;
      number = fixed_number op 1 args e refl;
      plain = λ _. refl;
      others = no_others op 1 1 (first ∷ rest) (statement op Lt args) e;
    })

lies_short : (k bytes byte first : ℕ) (rest : List ℕ) → EachLiesIn (first ∷ rest) (short_form (slice_get short_forms k) bytes byte rest)
lies_short zero bytes byte first rest = lies_two ops.Mov bytes byte first rest refl
lies_short (suc zero) bytes byte first rest = lies_one ops.Acquire bytes byte first rest refl
lies_short (suc (suc zero)) bytes byte first rest = lies_one ops.Release bytes byte first rest refl
lies_short (suc (suc (suc zero))) bytes byte first rest = lies_two ops.Subcall bytes byte first rest refl
lies_short (suc (suc (suc (suc k)))) bytes byte first rest = tt

abbrev late : List ℕ → Statement
late ws = statement ops.Wait Lt (drop 1 ws)

lies_late : (first : ℕ) (rest : List ℕ) → EachLiesIn (first ∷ rest) (with_words 2 rest 1 late)
lies_late first rest =
    lies_words (first ∷ rest) 2 rest 1 late (λ l. record {
      some = omega arith;
      within = omega arith;
      number = as_many 1 (drop 1 (take 2 rest)) (simp length-drop (ap (λ k. k - 1) (length-take-le 2 rest l)));
      plain = λ _. refl;
      others = tt;
    })

lies_wait : (bytes first : ℕ) (rest : List ℕ) (b : Bool) →
    EachLiesIn (first ∷ rest) (if b then with_words 2 rest 1 late else fixed_form ops.Wait Lt 1 bytes rest)
lies_wait bytes first rest true = lies_late first rest
lies_wait bytes first rest false = lies_fixed ops.Wait Lt 1 bytes first rest refl (λ _. refl)

-- ---- sizes of their own

both : (a b : Bool) → (a && b) ≡ true → b ≡ true
both true b e = e
both false b e = absurd (let f : ⊥ = cc in f)

-- the arities of statements with a size word
abbrev IsOpen : Arity → Type 0
IsOpen (exactly n) = ⊥
IsOpen several = Unit {0}
IsOpen pairs = Unit {0}

others_of : (a : Arity) → IsOpen a → (front : List ℕ) (s : Statement) (n : ℕ) → s.args ≡ take (length s.args) (drop 2 front) → n ≡ 2 + length s.args → HasOthers a front s n
others_of (exactly k) h front s n e l = tt
others_of several h front s n e l = (e, l)
others_of pairs h front s n e l = (e, l)

lies_sized : (op : Op) (first : ℕ) (rest : List ℕ) → IsOpen (arity op) → EachLiesIn (first ∷ rest) (sized_form op rest)
lies_sized op first [] h = tt
lies_sized op first (bytes ∷ rest) h =
    let n = bytes / 2 - 2 in
    lies_test (first ∷ bytes ∷ rest) (bytes % 2 == 0 && takes (arity op) n) (with_words n rest 2 (statement op Lt)) (λ e. lies_words (first ∷ bytes ∷ rest) n rest 2 (statement op Lt) (λ l.
    let many : length (take n rest) ≡ n = length-take-le n rest l in record {
      some = omega arith;
      within = omega arith;
      number = ap (takes (arity op)) many ∙ both (bytes % 2 == 0) (takes (arity op) n) e;
      plain = λ _. refl;
      others = others_of (arity op) h (first ∷ bytes ∷ rest) (statement op Lt (take n rest)) (2 + n) (ap (λ k. take k rest) (sym many)) (ap (λ k. 2 + k) (sym many));
    }))

-- ---- all of them

lies_form : (op : Op) (a : Arity) (cmp : Cmp) (bytes first : ℕ) (rest : List ℕ) → arity op ≡ a → (has_comparison op ≡ false → cmp ≡ Lt) → EachLiesIn (first ∷ rest) (form_by op a cmp bytes rest)
lies_form op (exactly n) cmp bytes first rest e plain = lies_fixed op cmp n bytes first rest e plain
lies_form op several cmp bytes first rest e plain = lies_test (first ∷ rest) (bytes == 14) (sized_form op rest) (λ _. lies_sized op first rest (subst IsOpen (sym e) tt))
lies_form op pairs cmp bytes first rest e plain = lies_test (first ∷ rest) (bytes == 14) (sized_form op rest) (λ _. lies_sized op first rest (subst IsOpen (sym e) tt))

lies_arity : (op : Op) (cmp : Cmp) (bytes first : ℕ) (rest : List ℕ) → (has_comparison op ≡ false → cmp ≡ Lt) → EachLiesIn (first ∷ rest) (by_arity op (arity op) cmp bytes rest)
lies_arity ops.Wait cmp bytes first rest plain = lies_wait bytes first rest (bytes == 6)
lies_arity op cmp bytes first rest plain = lies_form op (arity op) cmp bytes first rest refl plain

lies_compared : (op : Op) (bytes first : ℕ) (rest : List ℕ) (o : Option Cmp) → ((cmp : Cmp) → o ≡ Some cmp → has_comparison op ≡ false → cmp ≡ Lt) →
    EachLiesIn (first ∷ rest) (option_and_then (λ cmp. by_arity op (arity op) cmp bytes rest) o)
lies_compared op bytes first rest None h = tt
lies_compared op bytes first rest (Some cmp) h = lies_arity op cmp bytes first rest (h cmp refl)

compared_plain : (b : Bool) (o : Option Cmp) (cmp : Cmp) → (if b then o else Some Lt) ≡ Some cmp → b ≡ false → cmp ≡ Lt
compared_plain true o cmp e h = absurd (let f : ⊥ = cc in f)
compared_plain false o cmp e h = let same : Lt ≡ cmp = cc in sym same

lies_long : (o : Option Op) (bytes low first : ℕ) (rest : List ℕ) → EachLiesIn (first ∷ rest) (long_form o bytes low rest)
lies_long None bytes low first rest = tt
lies_long (Some op) bytes low first rest = lies_compared op bytes first rest (comparison_of op low) (compared_plain (has_comparison op) (slice_get comparisons low))

lies_either : (front : List ℕ) (b : Bool) (o p : Option Spelled) → EachLiesIn front o → EachLiesIn front p → EachLiesIn front (if b then o else p)
lies_either front true o p h i = h
lies_either front false o p h i = i

lies_in : (front : List ℕ) → EachLiesIn front (statement_at front)
lies_in [] = tt
lies_in (w ∷ rest) =
    lies_either (w ∷ rest) (w / 2048 % 2 == 1) (short_form (slice_get short_forms (w / 256 % 8)) (w / 4096) (w % 256) rest) (long_form (op_of (w % 256)) (w / 4096) (w / 256 % 8) rest)
    (lies_short (w / 256 % 8) (w / 4096) (w % 256) w rest)
    (lies_long (op_of (w % 256)) (w / 4096) (w / 256 % 8) w rest)

-- ---- the instruction has the statement

filled : (xs : List ℕ) → length xs ≤ 5 → take (length xs) (operand 0 xs ∷ operand 1 xs ∷ operand 2 xs ∷ operand 3 xs ∷ operand 4 xs ∷ []) ≡ xs
filled [] h = refl
filled (a ∷ []) h = refl
filled (a ∷ b ∷ []) h = refl
filled (a ∷ b ∷ c ∷ []) h = refl
filled (a ∷ b ∷ c ∷ d ∷ []) h = refl
filled (a ∷ b ∷ c ∷ d ∷ e ∷ []) h = refl
filled (a ∷ b ∷ c ∷ d ∷ e ∷ f ∷ xs) h = absurd (omega arith)

others_read : (args ys : List ℕ) → 1 ≤ length args → args ≡ take (length args) ys → operand 0 args ∷ take (length args - 1) (drop 1 ys) ≡ args
others_read [] ys h e = absurd (omega arith)
others_read (x ∷ xs) [] h e = absurd (let f : ⊥ = cc in f)
others_read (x ∷ xs) (y ∷ ys) h e =
    let same : xs ≡ take (length xs) ys = cc in
    let less : suc (length xs) - 1 ≡ length xs = omega arith in
    ap (λ n. x ∷ take n ys) less ∙ ap (λ zs. x ∷ zs) (sym same)

read_others : (args words : List ℕ) (at : ℕ) → 1 ≤ length args → args ≡ take (length args) (drop 2 (drop at words)) → operand 0 args ∷ slice_range words (at + 3) (at + 3 + (length args - 1)) ≡ args
read_others args words at h e =
    let place : drop 1 (drop 2 (drop at words)) ≡ drop (at + 3) words = drop-drop 1 2 (drop at words) ∙ drop-drop 3 at words in
    let many : at + 3 + (length args - 1) - (at + 3) ≡ length args - 1 = omega arith in
    ap (λ n. operand 0 args ∷ take n (drop (at + 3) words)) many
    ∙ ap (λ ys. operand 0 args ∷ take (length args - 1) ys) (sym place)
    ∙ others_read args (drop 2 (drop at words)) h e

at_least_three : (n : ℕ) (b c : Bool) → nat_le 3 n ≡ b → (b && c) ≡ true → 3 ≤ n
at_least_three n true c e h = grind (arith, nat_tests, e)
at_least_three n false c e h = absurd (let f : ⊥ = cc in f)

same_op : (a : Arity) (at : ℕ) (s : Statement) → (instr_by a at s).op ≡ s.op
same_op (exactly n) at s = refl
same_op several at s = refl
same_op pairs at s = refl

same_cmp : (a : Arity) (at : ℕ) (s : Statement) → (instr_by a at s).cmp ≡ s.cmp
same_cmp (exactly n) at s = refl
same_cmp several at s = refl
same_cmp pairs at s = refl

same_statement : (words : List ℕ) (at : ℕ) (s : Statement) → args_of (arity s.op) (instr_of at s) words ≡ s.args → statement_of (instr_of at s) words ≡ s
same_statement words at s e =
    let i = instr_of at s in
    ap (λ (op : Op). statement op i.cmp (args_of (arity op) i words)) (same_op (arity s.op) at s)
    ∙ ap (λ (cmp : Cmp). statement s.op cmp (args_of (arity s.op) i words)) (same_cmp (arity s.op) at s)
    ∙ ap (statement s.op s.cmp) e

args_read : (a : Arity) (words : List ℕ) (at : ℕ) (s : Statement) (n : ℕ) → ((k : ℕ) → a ≡ exactly k → k ≤ 5) → takes a (length s.args) ≡ true → HasOthers a (drop at words) s n →
    args_of a (instr_by a at s) words ≡ s.args
args_read (exactly k) words at s n few number others =
    let most = few k refl in
    let many : length s.args ≡ k = grind (arith, nat_tests, number) in
    let small : length s.args ≤ 5 = omega arith in
    let args = s.args in
    subst (λ j. take j (operand 0 args ∷ operand 1 args ∷ operand 2 args ∷ operand 3 args ∷ operand 4 args ∷ []) ≡ args) many (filled args small)
args_read several words at s n few number others =
    let least : 2 ≤ length s.args = grind (arith, nat_tests, number) in
    read_others s.args words at (omega arith) others.0
args_read pairs words at s n few number others =
    let least : 3 ≤ length s.args = at_least_three (length s.args) (nat_le 3 (length s.args)) (length s.args % 2 == 1) refl number in
    read_others s.args words at (omega arith) others.0

-- ---- what is decoded

pub record Found (words : List ℕ) (at : ℕ) (i : Instr) (n : ℕ) : Type 0 where
  pub one : Statement
  pub spelled : statement_at (drop at words) ≡ Some (one, n)
  pub held : i ≡ instr_of at one
  pub lies : LiesIn (drop at words) one n
  pub same : statement_of i words ≡ one

found_by : (words : List ℕ) (at : ℕ) (o : Option Spelled) (i : Instr) (n : ℕ) → statement_at (drop at words) ≡ o → EachLiesIn (drop at words) o → Some (i, n) ≡ decoded at o → Found words at i n
found_by words at None i n e h d = absurd (let f : ⊥ = cc in f)
found_by words at (Some s) i n e h d =
    let pair : (i, n) ≡ (instr_of at s.0, s.1) = cc in
    let held : i ≡ instr_of at s.0 = ap (λ (p : Instr × ℕ). p.0) pair in
    let as_long : n ≡ s.1 = ap (λ (p : Instr × ℕ). p.1) pair in
    let args = args_read (arity s.0.op) words at s.0 s.1 (few_operands s.0.op) h.number h.others in
    record {
      one = s.0;
      spelled = e ∙ ap (λ k. Some (s.0, k)) (sym as_long);
      held = held;
      lies = subst (LiesIn (drop at words) s.0) (sym as_long) h;
      same = ap (λ j. statement_of j words) held ∙ same_statement words at s.0 args;
    }

-- the words from `at` on, as a slice has them
abbrev pub front_of : List ℕ → ℕ → List ℕ
front_of words at = take (length words - at) (drop at words)

pub found : (words : List ℕ) (at : ℕ) (i : Instr) (n : ℕ) → Some (i, n) ≡ decoded at (statement_at (front_of words at)) → Found words at i n
found words at i n d =
    found_by words at (statement_at (drop at words)) i n refl (lies_in (drop at words)) (d ∙ ap (λ ws. decoded at (statement_at ws)) (take_rest words at))

none_by : (at : ℕ) (o : Option Spelled) → None ≡ decoded at o → o ≡ None
none_by at None d = refl
none_by at (Some s) d = absurd (let f : ⊥ = cc in f)

pub nothing : (words : List ℕ) (at : ℕ) → None ≡ decoded at (statement_at (front_of words at)) → statement_at (drop at words) ≡ None
nothing words at d = none_by at (statement_at (drop at words)) (d ∙ ap (λ ws. decoded at (statement_at ws)) (take_rest words at))

-- the others lie in the statement
rest_by : (a : Arity) (at : ℕ) (front : List ℕ) (s : Statement) (n : ℕ) → 1 ≤ n → takes a (length s.args) ≡ true → HasOthers a front s n → (instr_by a at s).rest_at + (instr_by a at s).rest ≤ at + n
rest_by (exactly k) at front s n l number others = omega arith
rest_by several at front s n l number others =
    let least : 2 ≤ length s.args = grind (arith, nat_tests, number) in
    let all = others.1 in
    omega arith
rest_by pairs at front s n l number others =
    let least : 3 ≤ length s.args = at_least_three (length s.args) (nat_le 3 (length s.args)) (length s.args % 2 == 1) refl number in
    let all = others.1 in
    omega arith

pub rest_within : (words : List ℕ) (at : ℕ) (i : Instr) (n : ℕ) → Found words at i n → i.rest_at + i.rest ≤ at + n
rest_within words at i n f =
    subst (λ (j : Instr). j.rest_at + j.rest ≤ at + n) (sym f.held) (rest_by (arity f.one.op) at (drop at words) f.one n f.lies.some f.lies.number f.lies.others)
