-- A statement that stores a value in its first operand.
use Rattle.std.proofs.Common.{◌≡◌, ℕ, Bool, true, false, ◌&&◌, ◌||◌, List, [], ◌∷◌, ◌++◌, map, length, Option, Some, None, refl, sym, ap, ap₂, ◌∙◌, arith, append-nil}
use Rattle.std.specs.Prelude.{ℤ, pos, nat_le, if◌then◌else◌, slice_index_or}
use Rattle.nxt_types.specs.Calls.{is_text}
use Rattle.nxt_types.specs.Names.{named}
use Rattle.nxt_types.specs.OperandRules.{AreFit, is_list, is_value}
use Rattle.nxt_types.specs.Shapes.{Shape, Void, Number, Array, Cluster, Mutex, is_number}
use Rattle.nxt_types.specs.Statements.{statement_of}
use Rattle.nxt_types.specs.declared.instr.Instr.{Instr}
use Rattle.nxt_types.specs.declared.instr.Op.{Op}
use Rattle.nxt_types.specs.declared.instr.Op.TheVariants as ops
use Rattle.nxt_types.specs.declared.kind.Cmp.{Cmp}
use Rattle.nxt_model.specs.Devices.{Devices}
use Rattle.nxt_model.specs.Means.{means, operand_at, comparison}
use Rattle.nxt_model.specs.Means.Arrays.{build}
use Rattle.nxt_model.specs.Means.Effects.{Operand, Effect, Store, store, gives, shape_of}
use Rattle.nxt_model.specs.Means.Strings.{concatenate, found_number, text_of}
use Rattle.nxt_model.specs.Means.Text.{packed_size}
use Rattle.nxt_model.specs.SystemCalls.{Clock}
use Rattle.nxt_model.specs.Values.{Value, Num}
use Rattle.nxt_model.specs.Variables.{Reference, Absent, part_of, references, read}
use Rattle.nxt_space.specs.Keeping.{Leaves}
use Rattle.nxt_space.specs.Variables.{Variables, SpaceViews}
use Rattle.nxt_operands.proofs.Laws.Named.{IsNamed, operand_shape, is_named, asked_parts, statement_by}
use Rattle.nxt_ops.specs.Ops.{runs as computes, stores as stores_value, dests}
use Rattle.nxt_arrays.specs.Arrays.{runs as works_on_lists}
use Rattle.nxt_machine.specs.Inside.Keeping.{StatementStays}
use Rattle.nxt_machine.proofs.Keeping.Parts.{StoresFirst, first_leaves, still_stays}

-- it computes a value, or works on lists or texts
abbrev pub is_first : Op → Bool
is_first op = works_on_lists op || (computes op && stores_value op)

-- ---- what it stores

gives_first : (os : List Operand) (v : Value) (d : Devices) → StoresFirst os (gives (operand_at os 0) v d).stores
gives_first os v d = record { value = v; others = []; stores = sym (append-nil (store 0 (operand_at os 0) v)) }

gives_both : (os : List Operand) (v : Value) (others : List Store) → StoresFirst os (store 0 (operand_at os 0) v ++ others)
gives_both os v others = record { value = v; others = others; stores = refl }

either_first : (os : List Operand) (b : Bool) (x y : Effect) → StoresFirst os x.stores → StoresFirst os y.stores → StoresFirst os (if b then x else y).stores
either_first os true x y f g = f
either_first os false x y f g = g

compared_first : (os : List Operand) (c : Cmp) (s : Shape) (d : Devices) (x y : Operand) → StoresFirst os (comparison c s d (operand_at os 0) x y).stores
compared_first os c Void d x y = gives_first os _ d
compared_first os c (Number k) d x y = gives_first os _ d
compared_first os c (Array n s) d x y = gives_first os _ d
compared_first os c (Cluster ss) d x y = gives_first os _ d
compared_first os c Mutex d x y = gives_first os _ d

build_first : (d : Devices) (os : List Operand) → StoresFirst os (build d os).stores
build_first d [] = gives_first [] (Num (pos 0)) d
build_first d (o ∷ os) = gives_first (o ∷ os) _ d

concatenated_first : (d : Devices) (os : List Operand) → StoresFirst os (concatenate d os).stores
concatenated_first d [] = gives_first [] (Num (pos 0)) d
concatenated_first d (o ∷ os) = gives_first (o ∷ os) _ d

found_first : (os : List Operand) (d : Devices) (found : Option (ℤ × ℕ)) (past : Operand) (offset : ℕ) (default : Operand) → StoresFirst os (found_number found d (operand_at os 0) past offset default).stores
found_first os d None past offset default = gives_both os _ _
found_first os d (Some f) past offset default = gives_both os _ _

pub stores_first : (op : Op) → is_first op ≡ true → (c : Cmp) (d : Devices) (t : Clock) (os : List Operand) → StoresFirst os (means op c d t os).stores
stores_first ops.Add e c d t os = gives_first os _ d
stores_first ops.Sub e c d t os = gives_first os _ d
stores_first ops.Neg e c d t os = gives_first os _ d
stores_first ops.Mul e c d t os = gives_first os _ d
stores_first ops.Div e c d t os = gives_first os _ d
stores_first ops.Mod e c d t os = gives_first os _ d
stores_first ops.And e c d t os = gives_first os _ d
stores_first ops.Or e c d t os = gives_first os _ d
stores_first ops.Xor e c d t os = gives_first os _ d
stores_first ops.Not e c d t os = gives_first os _ d
stores_first ops.Cmp e c d t os = compared_first os c (shape_of (operand_at os 0)) d (operand_at os 1) (operand_at os 2)
stores_first ops.Tst e c d t os = gives_first os _ d
stores_first ops.Mov e c d t os = gives_first os _ d
stores_first ops.Set e c d t os = gives_first os _ d
stores_first ops.Index e c d t os = gives_first os _ d
stores_first ops.Replace e c d t os = gives_first os _ d
stores_first ops.Arrsize e c d t os = gives_first os _ d
stores_first ops.Arrbuild e c d t os = build_first d os
stores_first ops.Arrsubset e c d t os = gives_first os _ d
stores_first ops.Arrinit e c d t os = gives_first os _ d
stores_first ops.Flatten e c d t os = gives_first os _ d
stores_first ops.Unflatten e c d t os =
    either_first os (nat_le (packed_size (shape_of (operand_at os 3))) (length (text_of (operand_at os 2)))) _ _
    (gives_both os _ _) (gives_both os _ _)
stores_first ops.Numtostr e c d t os = gives_first os _ d
stores_first ops.Strtonum e c d t os = found_first os d _ (operand_at os 1) _ (operand_at os 4)
stores_first ops.Strcat e c d t os = concatenated_first d os
stores_first ops.Strsubset e c d t os = gives_first os _ d
stores_first ops.Strtoarr e c d t os = gives_first os _ d
stores_first ops.Arrtostr e c d t os = gives_first os _ d
stores_first _ e c d t os = let f : ⊥ = cc in absurd f

-- ---- what its first operand names

-- the first word names a part, to which the first operand refers
pub record NamesFirst (s : Variables) (i : Instr) (rs : List Reference) : Type 0 where
  pub part : IsNamed s i.a
  pub refers : slice_index_or rs 0 Absent ≡ part_of (named s.shapes i.a)

-- its shape has what `Void` lacks
of_shape : (p : Shape → Bool) (s : Variables) (i : Instr) (rs : List Reference) (x y : Bool) → p Void ≡ false → ((p (operand_shape s i.a) && x) && y) ≡ true
    → slice_index_or rs 0 Absent ≡ part_of (named s.shapes i.a)
    → NamesFirst s i rs
of_shape p s i rs x y nothing e refers = record { part = is_named p s i.a nothing (asked_parts (p (operand_shape s i.a)) x y e).0; refers = refers }

pub names_first : (op : Op) → is_first op ≡ true → (s : Variables) (i : Instr) (words : List ℕ) → AreFit s.shapes (statement_by op i words) → NamesFirst s i (references s.shapes (statement_by op i words))
names_first ops.Add e s i words f = of_shape is_value s i _ _ _ refl (f.fit 0 (omega arith)) refl
names_first ops.Sub e s i words f = of_shape is_value s i _ _ _ refl (f.fit 0 (omega arith)) refl
names_first ops.Neg e s i words f = of_shape is_value s i _ _ _ refl (f.fit 0 (omega arith)) refl
names_first ops.Mul e s i words f = of_shape is_value s i _ _ _ refl (f.fit 0 (omega arith)) refl
names_first ops.Div e s i words f = of_shape is_value s i _ _ _ refl (f.fit 0 (omega arith)) refl
names_first ops.Mod e s i words f = of_shape is_value s i _ _ _ refl (f.fit 0 (omega arith)) refl
names_first ops.And e s i words f = of_shape is_value s i _ _ _ refl (f.fit 0 (omega arith)) refl
names_first ops.Or e s i words f = of_shape is_value s i _ _ _ refl (f.fit 0 (omega arith)) refl
names_first ops.Xor e s i words f = of_shape is_value s i _ _ _ refl (f.fit 0 (omega arith)) refl
names_first ops.Not e s i words f = of_shape is_value s i _ _ _ refl (f.fit 0 (omega arith)) refl
names_first ops.Cmp e s i words f = of_shape is_value s i _ _ _ refl (f.fit 0 (omega arith)) refl
names_first ops.Tst e s i words f = of_shape is_value s i _ _ _ refl (f.fit 0 (omega arith)) refl
names_first ops.Mov e s i words f = of_shape is_value s i _ _ _ refl (f.fit 0 (omega arith)) refl
names_first ops.Set e s i words f = of_shape is_number s i _ _ _ refl (f.fit 0 (omega arith)) refl
names_first ops.Index e s i words f = of_shape is_value s i _ _ _ refl (f.fit 0 (omega arith)) refl
names_first ops.Replace e s i words f = of_shape is_list s i _ _ _ refl (f.fit 0 (omega arith)) refl
names_first ops.Arrsize e s i words f = of_shape is_number s i _ _ _ refl (f.fit 0 (omega arith)) refl
names_first ops.Arrbuild e s i words f = of_shape is_list s i _ _ _ refl (f.fit 0 (omega arith)) refl
names_first ops.Arrsubset e s i words f = of_shape is_list s i _ _ _ refl (f.fit 0 (omega arith)) refl
names_first ops.Arrinit e s i words f = of_shape is_list s i _ _ _ refl (f.fit 0 (omega arith)) refl
names_first ops.Flatten e s i words f = of_shape is_text s i _ _ _ refl (f.fit 0 (omega arith)) refl
names_first ops.Unflatten e s i words f = of_shape is_value s i _ _ _ refl (f.fit 0 (omega arith)) refl
names_first ops.Numtostr e s i words f = of_shape is_text s i _ _ _ refl (f.fit 0 (omega arith)) refl
names_first ops.Strtonum e s i words f = of_shape is_number s i _ _ _ refl (f.fit 0 (omega arith)) refl
names_first ops.Strcat e s i words f = of_shape is_text s i _ _ _ refl (f.fit 0 (omega arith)) refl
names_first ops.Strsubset e s i words f = of_shape is_text s i _ _ _ refl (f.fit 0 (omega arith)) refl
names_first ops.Strtoarr e s i words f = of_shape is_text s i _ _ _ refl (f.fit 0 (omega arith)) refl
names_first ops.Arrtostr e s i words f = of_shape is_text s i _ _ _ refl (f.fit 0 (omega arith)) refl
names_first _ e s i words f = let g : ⊥ = cc in absurd g

-- ---- what it leaves in its place

or_true : (b : Bool) → (b || true) ≡ true
or_true true = refl
or_true false = refl

module _ (s new : SpaceViews) (i : Instr) (words : List ℕ) (d : Devices) (t : Clock) (fit : AreFit s.vars.shapes (statement_of i words)) (same : new.vars.shapes ≡ s.vars.shapes) where
  abbrev Stays : Type 0
  Stays = StatementStays t (statement_of i words) d s new

  first_stored : is_first i.op ≡ true → Leaves (i.a ∷ []) s new → Stays
  first_stored e left =
      let rs = references s.vars.shapes (statement_of i words) in
      let is = names_first i.op e s.vars i words fit in
      first_leaves rs s new i.a (means i.op i.cmp d t (map (read s.vars.values) rs)).stores is.part is.refers
      (stores_first i.op e i.cmp d t (map (read s.vars.values) rs)) same left

  -- one that works on lists or texts
  pub arranged_stays : works_on_lists i.op ≡ true → Leaves (i.a ∷ []) s new → Stays
  arranged_stays run left = first_stored (ap (λ b. b || (computes i.op && stores_value i.op)) run) left

  -- one that computes
  pub computed_stays : computes i.op ≡ true → Leaves (dests i) s new → Stays
  computed_stays run left = by (stores_value i.op) refl left
    where
      by : (b : Bool) → stores_value i.op ≡ b → Leaves (if b then i.a ∷ [] else []) s new → Stays
      by true stored left = first_stored (ap₂ (λ x y. works_on_lists i.op || (x && y)) run stored ∙ or_true (works_on_lists i.op)) left
      by false stored left = still_stays _ s new (left.table tt)
