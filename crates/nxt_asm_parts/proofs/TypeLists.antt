-- The types of variables and constants, one after another.
use Rattle.std.proofs.Common.{◌≡◌, ℕ, zero, suc, List, [], ◌∷◌, ◌++◌, map, length, replicate, refl, ap, ap₂, ◌∙◌}
use Rattle.nxt_types.specs.Shapes.{Shape, Number}
use Rattle.nxt_types.specs.declared.kind.Kind.TheVariants.{Ubyte, Slong}
use Rattle.nxt_model.specs.Assembled.{all_shapes}
use Rattle.nxt_model.specs.TextProgram.{constants, declared, shape_by, shapes, struct_shapes, subroutines, text_of, text_shape, texts}
use Rattle.nxt_model.specs.declared.nbc.NbcProgram.{NbcProgram}
use Rattle.nxt_model.specs.declared.nbc.NbcType.{NbcType}
use Rattle.nxt_model.specs.declared.nbc.NbcVar.{NbcVar}
use Rattle.nxt_asm_parts.proofs.NumberShapes.{all_same, shapes_twice}

map_append : {A B : Type 0} (f : A → B) (xs ys : List A) → map f (xs ++ ys) ≡ map f xs ++ map f ys
map_append f [] ys = refl
map_append f (x ∷ xs) ys = ap (λ l. f x ∷ l) (map_append f xs ys)

map_replicate : {A B : Type 0} (f : A → B) (n : ℕ) (x : A) → map f (replicate n x) ≡ replicate n (f x)
map_replicate f zero x = refl
map_replicate f (suc n) x = ap (λ l. f x ∷ l) (map_replicate f n x)

map_types : (ss : List Shape) (vs : List NbcVar) → map (shape_by ss) (map (λ v. v.shape) vs) ≡ map (λ v. shape_by ss v.shape) vs
map_types ss [] = refl
map_types ss (v ∷ vs) = ap (λ l. shape_by ss v.shape ∷ l) (map_types ss vs)

-- types of one shape behind others
abbrev pub many_behind : List Shape → List NbcType → ℕ → NbcType → List NbcType → Type 0
many_behind ss before n t after = after ≡ before ++ replicate n t

more_shapes : {X : Type 0} (ss : List Shape) (before after : List NbcType) (n : ℕ) (t : NbcType) (s : Shape) (xs : List X) (had : List Shape)
    → after ≡ before ++ replicate n t → shape_by ss t ≡ s → n ≡ length xs → map (shape_by ss) before ≡ had
    → map (shape_by ss) after ≡ had ++ map (λ x. s) xs
more_shapes ss before after n t s xs had pushed one count is =
    ap (map (shape_by ss)) pushed
    ∙ map_append (shape_by ss) before (replicate n t)
    ∙ ap₂ (λ a b. a ++ b) is (map_replicate (shape_by ss) n t ∙ ap (replicate n) one ∙ all_same s xs n count)

-- the types of the declared variables, of the return variables, of the numbers and of the texts
pub shapes_are : (p : NbcProgram) (one two three four : List NbcType) (returned number text : NbcType) (a b c : ℕ) → one ≡ map (λ v. v.shape) p.vars
    → two ≡ one ++ replicate a returned → three ≡ two ++ replicate b number → four ≡ three ++ replicate c text
    → ((ss : List Shape) → shape_by ss returned ≡ Number Ubyte) → ((ss : List Shape) → shape_by ss number ≡ Number Slong) → ((ss : List Shape) → shape_by ss text ≡ text_shape)
    → a ≡ length (subroutines p.blocks) → b ≡ length (constants (text_of p)) → c ≡ length (texts (text_of p))
    → map (shape_by (struct_shapes p.structs)) four ≡ all_shapes (text_of p)
shapes_are p one two three four returned number text a b c first second third fourth is_return is_number is_text returns_are numbers_are texts_are =
    let ss : List Shape = struct_shapes p.structs in
    let t = text_of p in
    let vars : map (shape_by ss) one ≡ declared t = ap (map (shape_by ss)) first ∙ map_types ss p.vars ∙ shapes_twice ss p.vars in
    let behind : map (shape_by ss) two ≡ shapes t =
    more_shapes ss one two a returned (Number Ubyte) (subroutines p.blocks) (declared t) second (is_return ss) returns_are vars in
    let numbered : map (shape_by ss) three ≡ shapes t ++ map (λ z. Number Slong) (constants t) =
    more_shapes ss two three b number (Number Slong) (constants t) (shapes t) third (is_number ss) numbers_are behind in
    more_shapes ss three four c text text_shape (texts t) (shapes t ++ map (λ z. Number Slong) (constants t)) fourth (is_text ss) texts_are numbered
