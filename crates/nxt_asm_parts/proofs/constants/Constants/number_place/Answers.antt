use Rattle.std.proofs.Common.{length, position, sym, ap, ap₂, ◌∙◌, w64, to_z-of_z}
use Rattle.std.specs.Option.{unwrap_or}
use Rattle.std.specs.Ordering.{int_eq}
use Rattle.nxt_model.specs.Assembled.{place_among}
use Rattle.nxt_model.specs.TextProgram.{constant}
use Rattle.nxt_asm_parts.proofs.PlacesAmong.{or_count, place_found}
use Rattle.nxt_asm_parts.proofs.constants.Constants.number_place.Goals as goal

pub returns : goal.returns
returns c =
    let keys = c.self.inside.numbers.keys in
    let asked = to_z-of_z {w = w64} {z = c.args.z} c.ranges.z in
    let read = to_z-of_z {w = w64} {z = c.cut.result} (record { sfits = c.cut.type_inv }) in
    c.unwrap_or.ensures
    ∙ ap₂ unwrap_or (c.get_index_of-place.ensures.index ∙ ap (λ z. position (int_eq z) keys) read)
    (c.number_count.ensures ∙ sym (ap (λ s. length s.numbers) c.self.view_is))
    ∙ or_count (int_eq c.cut.result) keys
    ∙ place_found int_eq c.cut.result keys
    ∙ ap₂ (place_among int_eq) (c.cut.ensures ∙ ap constant asked) (ap (λ s. s.numbers) c.self.view_is)
