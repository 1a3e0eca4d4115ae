-- How long a generated text can be.
use Rattle.std.proofs.Common.{◌≤◌, ◌<◌, ◌+◌, ◌*◌, ◌%◌, ◌++◌, ◌==◌, ℕ, zero, suc, List, Bool, true, false, length, arith, subst, sym, decimal}
use Rattle.std.specs.Prelude.{codes, if◌then◌else◌}
use Rattle.std.proofs.lemmas.Fmt.{length-decimal-le}
use Rattle.std.proofs.lemmas.List.{length-append}
use Rattle.nxt_gen.specs.Generator.{drawn, drawn_statements, generated_text, list_statement, next_seed, on_lists, seed_behind, statements_from, text_head, text_of, three_statements}

joined : (xs ys : List ℕ) (a b : ℕ) → length xs ≤ a → length ys ≤ b → length (xs ++ ys) ≤ a + b
joined xs ys a b few some = subst (λ n. n ≤ a + b) (sym (length-append xs ys)) (omega (arith, few, some))

chosen : (b : Bool) (xs ys : List ℕ) (n : ℕ) → length xs ≤ n → length ys ≤ n → length (if b then xs else ys) ≤ n
chosen true xs ys n first second = first
chosen false xs ys n first second = second

one_digit : (n : ℕ) → length (decimal (n % 8)) ≤ 1
one_digit n = length-decimal-le 1 (n % 8) (omega arith) (omega arith) (omega arith)

four_digits : (n : ℕ) → n < 2048 → length (decimal n) ≤ 4
four_digits n below = length-decimal-le 4 n (omega arith) (omega (arith, below)) (omega (arith, below))

module _ (d s v : ℕ) (kind : ℕ) where
  abbrev of : ℕ
  of = d % 8

  abbrev from : ℕ
  from = s % 8

  abbrev number : ℕ
  number = v % 2048

  lists_short : (name : List ℕ) → length name ≤ 11 → length (on_lists name of from) ≤ 16
  lists_short name few =
      joined ((name ++ decimal of) ++ codes ", a") (decimal from) 15 1 (joined (name ++ decimal of) (codes ", a") 12 3 (joined name (decimal of) 11 1 few (one_digit d)) (omega arith)) (one_digit s)

  number_short : length (decimal number) ≤ 4
  number_short = four_digits number (omega arith)

  byte_short : length (decimal (number % 256)) ≤ 4
  byte_short = four_digits (number % 256) (omega arith)

  filled_short : length (codes "arrinit a" ++ decimal of ++ codes ", " ++ decimal (number % 256) ++ codes ", " ++ decimal number) ≤ 25
  filled_short =
      joined ((((codes "arrinit a" ++ decimal of) ++ codes ", ") ++ decimal (number % 256)) ++ codes ", ") (decimal number) 21 4
      (joined (((codes "arrinit a" ++ decimal of) ++ codes ", ") ++ decimal (number % 256)) (codes ", ") 19 2
      (joined ((codes "arrinit a" ++ decimal of) ++ codes ", ") (decimal (number % 256)) 15 4
      (joined (codes "arrinit a" ++ decimal of) (codes ", ") 13 2 (joined (codes "arrinit a") (decimal of) 12 1 (omega arith) (one_digit d)) (omega arith)) byte_short) (omega arith)) number_short

  cut_short : length (on_lists (codes "arrsubset a") of from ++ codes ", 0, " ++ decimal number) ≤ 25
  cut_short =
      joined (on_lists (codes "arrsubset a") of from ++ codes ", 0, ") (decimal number) 21 4
      (joined (on_lists (codes "arrsubset a") of from) (codes ", 0, ") 16 5 (lists_short (codes "arrsubset a") (omega arith)) (omega arith)) number_short

  built_short : length (on_lists (codes "arrbuild a") of from ++ codes ", " ++ decimal (number % 256)) ≤ 25
  built_short =
      joined (on_lists (codes "arrbuild a") of from ++ codes ", ") (decimal (number % 256)) 21 4
      (joined (on_lists (codes "arrbuild a") of from) (codes ", ") 19 2 (le_more (lists_short (codes "arrbuild a") (omega arith))) (omega arith)) byte_short
    where
      le_more : {n : ℕ} → n ≤ 16 → n ≤ 19
      le_more few = omega (arith, few)

  moved_short : length (on_lists (codes "mov a") of from) ≤ 25
  moved_short = let few = lists_short (codes "mov a") (omega arith) in omega (arith, few)

  statement_short : length (list_statement of from number kind) ≤ 25
  statement_short =
      chosen (kind == 0) _ _ 25 filled_short (chosen (kind == 1) _ _ 25 cut_short (chosen (kind == 2) _ _ 25 built_short moved_short))

  three_short : length (three_statements of from number kind) ≤ 128
  three_short =
      let statement = list_statement of from number kind in
      let last = codes "\nsetout OUT_A, Power, n, UpdateFlags, UF_UPDATE_SPEED\n" in
      joined ((statement ++ codes "\narrsize n, a") ++ decimal of) last 68 60
      (joined (statement ++ codes "\narrsize n, a") (decimal of) 67 1 (joined statement (codes "\narrsize n, a") 25 42 statement_short (omega arith)) (one_digit d)) (omega arith)

statements_short : (times x : ℕ) → length (statements_from times x) ≤ times * 128
statements_short zero x = omega arith
statements_short (suc n) x =
    let a = next_seed x in
    let b = next_seed a in
    let c = next_seed b in
    let first = three_short (drawn a) (drawn b) (drawn c) (drawn (next_seed c) % 4) in
    let rest = statements_short n (seed_behind x) in
    let both = joined (drawn_statements x) (statements_from n (seed_behind x)) 128 (n * 128) first rest in
    omega (arith, both)

pub text_short : (times n : ℕ) → length (text_of times n) ≤ times * 128 + 256
text_short times n =
    let front = joined text_head (statements_from times n) 200 (times * 128) (omega arith) (statements_short times n) in
    let whole = joined (text_head ++ statements_from times n) (codes "endt\n") (200 + times * 128) 5 front (omega arith) in
    omega (arith, whole)

-- a generated text is no larger than a program may be
pub short : (n : ℕ) → length (generated_text n) ≤ 262144
unfolding generated_text
short n = let few = text_short 400 n in omega (arith, few)
