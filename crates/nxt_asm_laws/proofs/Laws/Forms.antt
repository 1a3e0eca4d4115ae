-- What holds of the forms of every text's lines.
use Rattle.std.proofs.Common.{◌≡◌, ℕ, zero, suc, ◌≤◌, Bool, true, false, ◌&&◌, ◌||◌, ◌==◌, List, [], ◌∷◌, map, length, Option, Some, None, refl, sym, ap, arith}
use Rattle.std.specs.Prelude.{if◌then◌else◌, ℤ, ⊤, nat_le, codes, bytes_eq, option_map, option_and_then}
use Rattle.std.proofs.lemmas.Bool.{and_parts, both_ways, leb-true}
use Rattle.std.proofs.lemmas.List.{length-map}
use Rattle.std.proofs.lemmas.List.Splits.{length-slice_split}
use Rattle.std.proofs.lemmas.Option.{none-some, same_Some}
use Rattle.std.proofs.lemmas.Slice.Eq.{bytes_eq-Decides}
use Rattle.nxt_types.specs.Opcodes.{all_ops, arity, takes, has_comparison, op_name, op_named}
use Rattle.nxt_types.specs.declared.instr.Op.{Op}
use Rattle.nxt_types.specs.declared.instr.Op.TheVariants as ops
use Rattle.nxt_types.specs.declared.kind.Cmp.{Cmp}
use Rattle.nxt_types.specs.declared.kind.Cmp.TheVariants.{Lt}
use Rattle.nxt_model.specs.Nbc.Tokens.{Word, Name, Number, Quoted, Sign}
use Rattle.nxt_model.specs.Nbc.Forms as forms
use Rattle.nxt_model.specs.Nbc.Forms.{Form, Formed, Given, Open, InData, InStruct, InThread, InSubroutine, Term, all_of, by_commas, term_of, terms_of, numbers_of, is_sign, is_word, is_keyword, brackets, given_by, type_name, declaration, member_form, statement_op, most_operands, with_terms, comparison_word, compared, statement_form, labelled_form, ◌or_else◌, two_names, with_name, one_name, with_term, with_list, include_form, opens_data, top_form, named_struct, declared, data_form, struct_member, struct_form, body_form, thread_form, subroutine_form, form_in, open_after, ends_empty, put_form, bad_at, formed_line, formed_from, formed}
use Rattle.nxt_asm_laws.proofs.Laws.Lists.{each_all, each_found}
use Rattle.nxt_asm_laws.proofs.Laws.Perhaps.{Perhaps, either, followed, known, list_fine, name_fine, one_of, single_fine, term_fine, two_fine}

-- a start of a type that is so often made an array
abbrev pub StartsAt : ℕ → Given → Type 0
StartsAt n forms.Nothing = ⊤
StartsAt n (forms.One z) = n ≡ 0
StartsAt n (forms.Many []) = ⊥
StartsAt n (forms.Many (z ∷ zs)) = n ≡ 1
StartsAt n (forms.Bytes s) = n ≡ 1

-- the operations that lines of their own stand for
abbrev pub is_end : Op → Bool
is_end ops.Finclump = true
is_end ops.Finclumpimmed = true
is_end op = false

-- a statement has as many operands as its operation takes and a size word counts, compares only where the operation does,
-- and ends no thread
abbrev pub IsFormed : Form → Type 0
IsFormed (forms.Do label op cmp ts) = (takes (arity op) (length ts) ≡ true) × (length ts ≤ 32765) × (has_comparison op ≡ false → cmp ≡ Lt) × (is_end op ≡ false)
IsFormed (forms.Declare n t g) = StartsAt t.arrays g
IsFormed f = ⊤

abbrev pub LineFormed : ℕ × Form → Type 0
LineFormed l = IsFormed l.1

-- ---- forms

abbrev pub Fine : Option Form → Type 0
Fine o = Perhaps IsFormed o

-- ---- statements

-- an operation by its name ends no thread
named_spoken : (n : List ℕ) (op : Op) → bytes_eq n (codes "finclump") ≡ false → bytes_eq n (codes "finclumpimmed") ≡ false → bytes_eq (op_name op) n ≡ true → is_end op ≡ false
named_spoken n ops.Finclump first second e =
    absurd (both_ways (bytes_eq n (codes "finclump")) first (ap (λ l. bytes_eq l (codes "finclump")) (sym ((bytes_eq-Decides (codes "finclump") n).0 e))))
named_spoken n ops.Finclumpimmed first second e =
    absurd (both_ways (bytes_eq n (codes "finclumpimmed")) second (ap (λ l. bytes_eq l (codes "finclumpimmed")) (sym ((bytes_eq-Decides (codes "finclumpimmed") n).0 e))))
named_spoken n op first second e = refl

op_spoken : (n : List ℕ) (op : Op) → statement_op n ≡ Some op → is_end op ≡ false
op_spoken n op = by (bytes_eq n (codes "waitv")) (bytes_eq n (codes "finclump")) (bytes_eq n (codes "finclumpimmed")) refl refl
  where
    by : (a b c : Bool) → bytes_eq n (codes "finclump") ≡ b → bytes_eq n (codes "finclumpimmed") ≡ c → (if a then Some ops.Wait else if b || c then None else op_named n) ≡ Some op → is_end op ≡ false
    by true b c first second e = ap is_end (sym (same_Some ops.Wait op e))
    by false true c first second e = absurd (none-some op e)
    by false false true first second e = absurd (none-some op e)
    by false false false first second e = named_spoken n op first second (each_found (λ o. ⊤) (λ o. bytes_eq (op_name o) n) all_ops op (each_all (λ o. ⊤) all_ops (λ o. tt)) e).1

terms_fine : (label : Option (List ℕ)) (op : Op) (cmp : Cmp) (ts : List Term) → (has_comparison op ≡ false → cmp ≡ Lt) → is_end op ≡ false → Fine (with_terms label op cmp ts)
terms_fine label op cmp ts plain spoken = by (takes (arity op) (length ts) && nat_le (length ts) most_operands) refl
  where
    by : (c : Bool) → (takes (arity op) (length ts) && nat_le (length ts) most_operands) ≡ c → Fine (if c then Some (forms.Do label op cmp ts) else None)
    by true e =
        let both = and_parts (takes (arity op) (length ts)) (nat_le (length ts) most_operands) e in
        (both.0, leb-true (length ts) most_operands both.1, plain, spoken)
    by false e = tt

compared_fine : (label : Option (List ℕ)) (op : Op) (ps : List (List Word)) → has_comparison op ≡ true → is_end op ≡ false → Fine (compared label op ps)
compared_fine label op [] compares spoken = tt
compared_fine label op (first ∷ others) compares spoken =
    followed IsFormed (λ cmp. option_and_then (with_terms label op cmp) (all_of (map term_of others))) (comparison_word first)
    (λ cmp. followed IsFormed (with_terms label op cmp) (all_of (map term_of others))
    (λ ts. terms_fine label op cmp ts (λ no. absurd (both_ways (has_comparison op) no compares)) spoken))

of_op : (label : Option (List ℕ)) (ws : List Word) (op : Op) (c : Bool) → is_end op ≡ false → has_comparison op ≡ c
    → Fine (if c then compared label op (by_commas ws) else option_and_then (with_terms label op Lt) (terms_of ws))
of_op label ws op true spoken e = compared_fine label op (by_commas ws) e spoken
of_op label ws op false spoken e = followed IsFormed (with_terms label op Lt) (terms_of ws) (λ ts. terms_fine label op Lt ts (λ no. refl) spoken)

statement_fine : (label : Option (List ℕ)) (ws : List Word) → Fine (statement_form label ws)
statement_fine label (Name n ∷ ws) =
    known IsFormed (λ op. if has_comparison op then compared label op (by_commas ws) else option_and_then (with_terms label op Lt) (terms_of ws)) (statement_op n)
    (λ op e. of_op label ws op (has_comparison op) (op_spoken n op e) refl)
statement_fine label _ = tt

labelled_fine : (ws : List Word) → Fine (labelled_form ws)
labelled_fine (Name l ∷ Sign b ∷ []) = one_of IsFormed (b == 58) (Some (forms.Label l)) (statement_form None (Name l ∷ Sign b ∷ [])) tt (statement_fine None (Name l ∷ Sign b ∷ []))
labelled_fine (Name l ∷ Sign b ∷ w ∷ ws) =
    one_of IsFormed (b == 58) (statement_form (Some l) (w ∷ ws)) (statement_form None (Name l ∷ Sign b ∷ w ∷ ws)) (statement_fine (Some l) (w ∷ ws))
    (statement_fine None (Name l ∷ Sign b ∷ w ∷ ws))
labelled_fine ws = statement_fine None ws

-- ---- words of one form

include_fine : (ws : List Word) → Fine (include_form ws)
include_fine (Sign b ∷ w ∷ Quoted file ∷ []) =
    one_of IsFormed ((b == 35) && is_word w (codes "include") && bytes_eq file (codes "NXTDefs.h")) (Some forms.Include) None tt tt
include_fine _ = tt

-- ---- declarations

-- as many as pieces
abbrev AsMany : {A : Type 0} → ℕ → Option (List A) → Type 0
AsMany n None = ⊤
AsMany n (Some xs) = length xs ≡ n

one_more : {A : Type 0} (x : A) (n : ℕ) (o : Option (List A)) → AsMany n o → AsMany (suc n) (option_map (λ xs. x ∷ xs) o)
one_more x n None h = tt
one_more x n (Some xs) h = ap suc h

all_many : {A : Type 0} (os : List (Option A)) → AsMany (length os) (all_of os)
all_many [] = refl
all_many (None ∷ os) = tt
all_many (Some x ∷ os) = one_more x (length os) (all_of os) (all_many os)

pieces : (ws : List Word) → 1 ≤ length (map forms.number_of (by_commas ws))
pieces ws = omega (arith, length-map (by_commas ws) forms.number_of, length-slice_split (is_sign 44) ws)

many_fine : (name t : List ℕ) (n : ℕ) (o : Option (List ℤ)) → AsMany n o → 1 ≤ n → Fine (option_map (forms.Declare name (type_name t 1)) (option_map forms.Many o))
many_fine name t n None many some = tt
many_fine name t n (Some []) many some = absurd (omega (arith, many, some))
many_fine name t n (Some (z ∷ zs)) many some = refl

given_fine : (name t : List ℕ) (n : ℕ) (ws : List Word) → Fine (option_map (forms.Declare name (type_name t n)) (given_by t n ws))
given_fine name t n [] = tt
given_fine name t zero (Number z ∷ []) = refl
given_fine name t (suc zero) (Quoted s ∷ []) = refl
given_fine name t (suc zero) ws =
    let ps : List (Option ℤ) = map forms.number_of (by_commas ws) in
    many_fine name t (length ps) (all_of ps) (all_many ps) (pieces ws)
given_fine name t _ ws = tt

declared_fine : (ws : List Word) → Fine (declared ws)
declared_fine (Name n ∷ Name t ∷ ws) =
    let b = brackets ws in
    one_of IsFormed (is_keyword t) None (option_map (forms.Declare n (type_name t b.0)) (given_by t b.0 b.1)) tt (given_fine n t b.0 b.1)
declared_fine _ = tt

member_fine : (name t : List ℕ) (b : ℕ × List Word) → Fine (member_form name t b)
member_fine name t (arrays, []) = one_of IsFormed (is_keyword t) None (Some (forms.Member name (type_name t arrays))) tt tt
member_fine name t (arrays, w ∷ ws) = tt

struct_member_fine : (ws : List Word) → Fine (struct_member ws)
struct_member_fine (Name n ∷ Name t ∷ ws) = member_fine n t (brackets ws)
struct_member_fine _ = tt

named_fine : (ws : List Word) → Fine (named_struct ws)
named_fine (Name n ∷ w ∷ []) = one_of IsFormed (is_word w (codes "struct")) (Some (forms.OpenStruct n)) None tt tt
named_fine _ = tt

-- ---- places

module _ (ws : List Word) where
  opens_fine : Fine (opens_data ws)
  opens_fine = two_fine IsFormed (codes "dseg") (codes "segment") forms.OpenData tt ws

  top_fine : Fine (top_form ws)
  top_fine =
      either IsFormed (include_form ws) (opens_data ws or_else with_name (codes "thread") forms.OpenThread ws or_else with_name (codes "subroutine") forms.OpenSubroutine ws)
      (include_fine ws)
      (either IsFormed (opens_data ws) (with_name (codes "thread") forms.OpenThread ws or_else with_name (codes "subroutine") forms.OpenSubroutine ws) opens_fine
      (either IsFormed (with_name (codes "thread") forms.OpenThread ws) (with_name (codes "subroutine") forms.OpenSubroutine ws)
      (name_fine IsFormed (codes "thread") forms.OpenThread (λ n. tt) ws) (name_fine IsFormed (codes "subroutine") forms.OpenSubroutine (λ n. tt) ws)))

  data_fine : Fine (data_form ws)
  data_fine =
      either IsFormed (two_names (codes "dseg") (codes "ends") forms.CloseData ws) (named_struct ws or_else declared ws)
      (two_fine IsFormed (codes "dseg") (codes "ends") forms.CloseData tt ws) (either IsFormed (named_struct ws) (declared ws) (named_fine ws) (declared_fine ws))

  struct_fine : (n : List ℕ) → Fine (struct_form n ws)
  struct_fine n =
      either IsFormed (two_names n (codes "ends") forms.CloseStruct ws) (struct_member ws) (two_fine IsFormed n (codes "ends") forms.CloseStruct tt ws) (struct_member_fine ws)

  body_fine : Fine (body_form ws)
  body_fine =
      either IsFormed (opens_data ws) (with_term (codes "call") forms.Call ws or_else labelled_form ws) opens_fine
      (either IsFormed (with_term (codes "call") forms.Call ws) (labelled_form ws) (term_fine IsFormed (codes "call") forms.Call (λ t. tt) ws) (labelled_fine ws))

  exits_fine : Fine (one_name (codes "exit") forms.Exit ws or_else with_term (codes "exitto") forms.ExitTo ws or_else body_form ws)
  exits_fine =
      either IsFormed (one_name (codes "exit") forms.Exit ws) (with_term (codes "exitto") forms.ExitTo ws or_else body_form ws) (single_fine IsFormed (codes "exit") forms.Exit tt ws)
      (either IsFormed (with_term (codes "exitto") forms.ExitTo ws) (body_form ws) (term_fine IsFormed (codes "exitto") forms.ExitTo (λ t. tt) ws) body_fine)

  thread_fine : Fine (thread_form ws)
  thread_fine =
      let exits : Option Form = one_name (codes "exit") forms.Exit ws or_else with_term (codes "exitto") forms.ExitTo ws or_else body_form ws in
      either IsFormed (one_name (codes "endt") forms.CloseBlock ws)
      (with_list (codes "precedes") forms.Precedes ws or_else with_list (codes "follows") forms.Follows ws or_else exits)
      (single_fine IsFormed (codes "endt") forms.CloseBlock tt ws)
      (either IsFormed (with_list (codes "precedes") forms.Precedes ws) (with_list (codes "follows") forms.Follows ws or_else exits)
      (list_fine IsFormed (codes "precedes") forms.Precedes (λ ts. tt) ws)
      (either IsFormed (with_list (codes "follows") forms.Follows ws) exits (list_fine IsFormed (codes "follows") forms.Follows (λ ts. tt) ws) exits_fine))

  subroutine_fine : Fine (subroutine_form ws)
  subroutine_fine =
      either IsFormed (one_name (codes "ends") forms.CloseBlock ws) (one_name (codes "return") forms.Return ws or_else body_form ws)
      (single_fine IsFormed (codes "ends") forms.CloseBlock tt ws)
      (either IsFormed (one_name (codes "return") forms.Return ws) (body_form ws) (single_fine IsFormed (codes "return") forms.Return tt ws) body_fine)

  -- the form of a line
  pub form_fine : (o : Open) → Fine (form_in o ws)
  form_fine [] = top_fine
  form_fine ((l, InData) ∷ o) = data_fine
  form_fine ((l, InStruct n has_member) ∷ o) = struct_fine n
  form_fine ((l, InThread) ∷ o) = thread_fine
  form_fine ((l, InSubroutine) ∷ o) = subroutine_fine
