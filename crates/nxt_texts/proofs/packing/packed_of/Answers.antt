-- The bytes of the value's flat form are those of the value.
use Rattle.std.proofs.Common.{◌≡◌, Option, Some, None, IsSome, sym, ◌∙◌}
use Rattle.std.specs.Prelude.{option_map}
use Rattle.nxt_types.specs.Names.{Name}
use Rattle.nxt_types.specs.Shapes.{Shape, tree}
use Rattle.nxt_space.specs.Variables.{name_of}
use Rattle.nxt_operands.proofs.Laws.Shapes.{told}
use Rattle.nxt_texts.proofs.PackedValues.{value_packed}
use Rattle.nxt_texts.proofs.packing.packed_of.Goals as goal

-- a variable with a name has a shape
unnamed : (o : Option Name) → None ≡ option_map {U = Shape} (λ n. n.shape) o → IsSome o → ⊥
unnamed None e some = let f : ⊥ = cc in f
unnamed (Some n) e some = let f : ⊥ = cc in f

pub returns-in_default : goal.returns-in_default
returns-in_default c =
    absurd (unnamed (name_of c.args.space.now.vars c.args.i) c.in_default.ensures c.requires.named)

pub returns : goal.returns
returns c =
    let s = c.args.space.now.vars in
    let t = tree c.in-Some.shape.now in
    let same = sym (told (name_of s c.args.i) t c.in-Some.ensures) in
    value_packed s c.args.i t c.as_slice.result.now c.new-bytes.result c.pack.new.into c.requires.sound c.requires.named c.requires.no_list same (c.as_slice.ensures ∙ c.in_ok-flat.ensures) c.new-bytes.ensures c.in_ok-pack.ensures.bytes
