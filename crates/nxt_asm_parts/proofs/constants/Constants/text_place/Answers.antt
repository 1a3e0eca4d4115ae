use Rattle.std.proofs.Common.{bytes_eq, map, length, sym, ap, ap₂, ◌∙◌}
use Rattle.std.specs.Option.{unwrap_or}
use Rattle.std.proofs.lemmas.List.{length-map}
use Rattle.nxt_model.specs.Assembled.{place_among}
use Rattle.nxt_asm_parts.proofs.PlacesAmong.{or_count, place_found}
use Rattle.nxt_asm_parts.proofs.ShownTexts.{place_shown, same_text, shown}
use Rattle.nxt_asm_parts.proofs.constants.Constants.text_place.Goals as goal

pub returns : goal.returns
returns c =
    let keys = c.self.inside.texts.keys in
    let text = c.args.text in
    c.unwrap_or.ensures
    ∙ ap₂ unwrap_or c.get_index_of-place.ensures.index (c.text_count.ensures ∙ sym (ap (λ s. length s.texts) c.self.view_is) ∙ length-map keys shown)
    ∙ or_count (same_text text) keys
    ∙ place_shown text keys
    ∙ place_found bytes_eq text.now (map shown keys)
    ∙ ap (λ s. place_among bytes_eq text.now s.texts) c.self.view_is
