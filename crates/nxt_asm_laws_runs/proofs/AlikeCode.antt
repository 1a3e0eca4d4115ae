-- The code of a text and that of its image are alike.
use Rattle.std.proofs.Common.{◌≡◌, ℕ, zero, suc, ◌+◌, ◌<◌, ◌≤◌, ◌==◌, false, ◌&&◌, List, [], ◌∷◌, ◌++◌, map, length, drop, pos, take, refl, sym, ap, subst, ◌∙◌, append_assoc, eq-eqb}
use Rattle.std.specs.Prelude.{⊤, flat_map, slice_get, slice_index, slice_index_or, sum_by}
use Rattle.std.specs.List.{list_any}
use Rattle.std.proofs.lemmas.Bool.{or_parts}
use Rattle.std.proofs.lemmas.List.{drop_at, map-append, take_at}
use Rattle.nxt_facts.proofs.Each.{Each}
use Rattle.nxt_types.specs.Names.{size}
use Rattle.nxt_types.specs.Shapes.{Members, Void, members}
use Rattle.nxt_types.specs.Statements.{Statement, statement_number}
use Rattle.nxt_model.specs.declared.nbc.NbcBlock.{NbcBlock}
use Rattle.nxt_model.specs.declared.nbc.NbcStatement.{NbcStatement}
use Rattle.nxt_model.specs.Assembled.{all_shapes, block_words, records_from, starts_from, word_count}
use Rattle.nxt_model.specs.Clumps.{Plan}
use Rattle.nxt_model.specs.Image as image
use Rattle.nxt_model.specs.Program.{Instruction}
use Rattle.nxt_model.specs.TextProgram as text
use Rattle.nxt_model.specs.TextProgram.{Text, declared}
use Rattle.nxt_model.specs.Values.{Value}
use Rattle.nxt_model.proofs.Laws.Alike.{SameIf}
use Rattle.nxt_asm_rules.specs.AsmRules.{far_in_blocks, far_in_body, jumps_far}
use Rattle.nxt_asm_laws_code.specs.Kept.{HasFit, IsKept, JumpsBelow}
use Rattle.nxt_asm_laws_code.specs.Placed.{placed_body, placed_from}
use Rattle.nxt_asm_laws_code.specs.Suits.{IsSuited}
use Rattle.nxt_asm_laws_code.specs.There.{IsThere}
use Rattle.nxt_asm_laws_layout.proofs.Laws.Parts.{IsVariable}
use Rattle.nxt_asm_laws_runs.proofs.Agreement.{constant_values, variable_count}
use Rattle.nxt_asm_laws_runs.proofs.AlikeStatements.{alike}
use Rattle.nxt_asm_laws_runs.proofs.Constants.{IsWhole, more}
use Rattle.nxt_asm_laws_runs.proofs.Numbers.{IsFront, block_number, front_more, place_number}
use Rattle.nxt_asm_laws_runs.proofs.SameStatements.{AreAlike, alike_same}

-- ---- lists of instructions

abbrev pub AllAlike : ℕ → List Value → List Instruction → List Instruction → Type 0
AllAlike n cs [] [] = ⊤
AllAlike n cs (i ∷ is) (j ∷ js) = AreAlike n cs i j × AllAlike n cs is js
AllAlike n cs _ _ = ⊥

alike_append : (n : ℕ) (cs : List Value) (is js ks ls : List Instruction) → AllAlike n cs is js → AllAlike n cs ks ls → AllAlike n cs (is ++ ks) (js ++ ls)
alike_append n cs [] [] ks ls h k = k
alike_append n cs (i ∷ is) (j ∷ js) ks ls h k = (h.0, alike_append n cs is js ks ls h.1 k)
alike_append n cs [] (j ∷ js) ks ls h k = absurd h
alike_append n cs (i ∷ is) [] ks ls h k = absurd h

-- at each place they do the same
pub same_at : (n : ℕ) (cs : List Value) (is js : List Instruction) → AllAlike n cs is js → (k : ℕ) → SameIf (IsWhole n cs) (more n cs) (slice_get is k) (slice_get js k)
same_at n cs [] [] h zero = tt
same_at n cs [] [] h (suc k) = tt
same_at n cs (i ∷ is) (j ∷ js) h zero = alike_same n cs i j h.0
same_at n cs (i ∷ is) (j ∷ js) h (suc k) = same_at n cs is js h.1 k
same_at n cs [] (j ∷ js) h k = absurd h
same_at n cs (i ∷ is) [] h k = absurd h

-- ---- blocks

-- what is known of a block of a text that is assembled
pub record IsAssembledBlock (p : Text) (b : NbcBlock) : Type 0 where
  pub there : Each (λ (s : NbcStatement). Each (IsThere p) s.args) b.body
  pub suited : Each IsSuited b.body
  pub kept : IsKept p b

module _ (p : Text) (few : sum_by size (all_shapes p) ≤ 49151) (variables : (i : ℕ) → i < length (declared p) → IsVariable (slice_index_or (declared p) i Void)) (code : List (ℕ × Statement)) where
  abbrev ss : Members
  ss = members (all_shapes p)

  abbrev Alikes : List Instruction → List Instruction → Type 0
  Alikes is js = AllAlike (variable_count p) (constant_values p) is js

  -- the statements of a body
  body_alike : (first m : ℕ) (at : List ℕ) → ((place : ℕ) → place < m → statement_number code (pos (slice_index at place)) ≡ first + place) → (here : ℕ) (xs : List NbcStatement)
      → Each (λ (s : NbcStatement). Each (IsThere p) s.args) xs → Each IsSuited xs → Each (HasFit p) xs → Each (JumpsBelow m) xs → ((line : ℕ) → far_in_body line at here xs ≡ false)
      → Alikes (map (text.instruction p first) xs) (map (image.instruction ss code) (placed_body p at here xs))
  body_alike first m at numbered here [] there suited fit leads near = tt
  body_alike first m at numbered here (s ∷ xs) there suited fit leads near =
      let far = list_any (jumps_far at here) s.args in
      let own = or_parts ((s.line == s.line) && far) (far_in_body s.line at (here + word_count s) xs) (near s.line) in (
        alike p few variables code first here m at numbered s (record {
          there = there.0;
          suited = suited.0;
          fit = fit.0;
          leads = leads.0;
          near = sym (ap (λ b. b && far) (eq-eqb s.line s.line refl)) ∙ own.0;
        }),
        body_alike first m at numbered (here + word_count s) xs there.1 suited.1 fit.1 leads.1
            (λ line. (or_parts ((s.line == line) && far) (far_in_body line at (here + word_count s) xs) (near line)).1),
      )

  -- and of blocks
  pub blocks_alike : (here first : ℕ) (front : List (ℕ × Statement)) (bs : List NbcBlock) → code ≡ front ++ placed_from p here bs → IsFront p here first front
      → Each (IsAssembledBlock p) bs → ((line : ℕ) → far_in_blocks line here bs ≡ false)
      → Alikes (text.instructions_from p first bs) (map (image.instruction ss code) (placed_from p here bs))
  blocks_alike here first front [] e h known near = tt
  blocks_alike here first front (b ∷ bs) e h known near =
      let at : List ℕ = starts_from here b.body in
      let body : List (ℕ × Statement) = placed_body p at here b.body in
      let rest : List (ℕ × Statement) = placed_from p (here + block_words b) bs in
      let none_far = λ (line : ℕ). or_parts (far_in_body line at here b.body) (far_in_blocks line (here + block_words b) bs) (near line) in
      subst (λ l. Alikes (map (text.instruction p first) b.body ++ text.instructions_from p (first + length b.body) bs) l) (sym (map-append (image.instruction ss code) body rest))
      (alike_append (variable_count p) (constant_values p) (map (text.instruction p first) b.body) (map (image.instruction ss code) body)
      (text.instructions_from p (first + length b.body) bs) (map (image.instruction ss code) rest)
      (body_alike first (length b.body) at
      (λ place lt. ap (λ l. statement_number l (pos (slice_index at place))) e ∙ place_number p here first front b bs place h lt)
      here b.body known.0.there known.0.suited known.0.kept.operands known.0.kept.jumps (λ line. (none_far line).0))
      (blocks_alike (here + block_words b) (first + length b.body) (front ++ body) bs (e ∙ sym (append_assoc front body rest)) (front_more p here first front b h) known.1
      (λ line. (none_far line).1)))

  -- ---- plans

  pub plans_same : (here first : ℕ) (front : List (ℕ × Statement)) (bs : List NbcBlock) → code ≡ front ++ placed_from p here bs → IsFront p here first front
      → image.plans_from code (records_from here bs) (flat_map (λ (b : NbcBlock). b.dependents) bs) ≡ text.plans_from first bs
  plans_same here first front [] e h = refl
  plans_same here first front (b ∷ bs) e h =
      let at : List ℕ = starts_from here b.body in
      let body : List (ℕ × Statement) = placed_body p at here b.body in
      let rest : List (ℕ × Statement) = placed_from p (here + block_words b) bs in
      let ds : List ℕ = flat_map (λ (x : NbcBlock). x.dependents) bs in
      let k : ℕ = length b.dependents in
      let plan : ℕ → List ℕ → Plan = λ start own. record { fire = b.fire; start = start; dependents = own } in
      let tail : List ℕ → List Plan = λ xs. image.plans_from code (records_from (here + block_words b) bs) xs in
      ap (λ n. plan n (take k (b.dependents ++ ds)) ∷ tail (drop k (b.dependents ++ ds)))
      (ap (λ l. statement_number l (pos here)) e ∙ block_number p here first front (b ∷ bs) h)
      ∙ ap (λ own. plan first own ∷ tail (drop k (b.dependents ++ ds))) (take_at b.dependents ds k refl)
      ∙ ap (λ xs. plan first b.dependents ∷ tail xs) (drop_at b.dependents ds k refl)
      ∙ ap (λ l. plan first b.dependents ∷ l)
      (plans_same (here + block_words b) (first + length b.body) (front ++ body) bs (e ∙ sym (append_assoc front body rest)) (front_more p here first front b h))
