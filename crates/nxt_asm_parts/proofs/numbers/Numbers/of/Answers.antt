use Rattle.std.proofs.Common.{◌≡◌, ◌+◌, ◌++◌, length, map, refl, ap, ◌∙◌, length-append}
use Rattle.std.proofs.lemmas.List.{length-map}
use Rattle.nxt_types.specs.Shapes.{Number}
use Rattle.nxt_types.specs.declared.kind.Kind.TheVariants.{Ubyte, Slong}
use Rattle.nxt_model.specs.Assembled.{all_shapes}
use Rattle.nxt_model.specs.TextProgram.{constants, declared, shapes, struct_shapes, subroutines, text_of, text_shape, texts}
use Rattle.nxt_asm_parts.specs.Firsts.{firsts_of, places_of}
use Rattle.nxt_asm_parts.proofs.NumberShapes.{all_declared, all_same}
use Rattle.nxt_asm_parts.proofs.numbers.Numbers.of.Goals as goal

pub invariant_of-result : goal.invariant_of-result
invariant_of-result c =
    let p = c.args.program.now in
    let t = text_of p in
    let numbers = map (λ z. Number Slong) (constants t) in
    let placed : c.in_ok-returned.returned ≡ places_of p.blocks = c.in_ok-returned.ensures ∙ ap places_of c.as_slice.ensures in
    let first : c.in_ok-firsts.firsts ≡ firsts_of (declared t) =
    c.in_ok-firsts.ensures ∙ ap firsts_of (all_declared p _ _ (ap struct_shapes c.requires.measured) c.as_slice-2.ensures) in
    let second : c.add_all.new.self ≡ firsts_of (shapes t) =
    c.in_ok-add_all.ensures (declared t) (Number Ubyte) refl first
    ∙ ap (λ l. firsts_of (declared t ++ l)) (all_same (Number Ubyte) (subroutines p.blocks) c.in_ok-returned.returned.count (ap (λ r. r.count) placed)) in
    let third : c.add_all-2.new.self ≡ firsts_of (shapes t ++ numbers) =
    c.in_ok-add_all-2.ensures (shapes t) (Number Slong) refl second
    ∙ ap (λ l. firsts_of (shapes t ++ l)) (all_same (Number Slong) (constants t) c.number_count.result (c.number_count.ensures ∙ ap length c.requires.numbers)) in
    let fourth : c.add_all-3.new.self ≡ firsts_of (all_shapes t) =
    c.in_ok-add_all-3.ensures (shapes t ++ numbers) text_shape refl third
    ∙ ap (λ l. firsts_of ((shapes t ++ numbers) ++ l)) (all_same text_shape (texts t) c.text_count.result (c.text_count.ensures ∙ ap length c.requires.texts)) in (
      record { measured = c.requires.measured; numbers = c.requires.numbers; texts = c.requires.texts },
      record {
        entries = fourth;
        returned = placed;
        first_number = c.len-first_number.ensures (shapes t) second;
        first_text = c.len-first_text.ensures (shapes t ++ numbers) third ∙ length-append (shapes t) numbers ∙ ap (λ n. length (shapes t) + n) (length-map (constants t) (λ z. Number Slong));
      },
    )
