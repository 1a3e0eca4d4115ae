use Rattle.std.proofs.Common.{refl}
use Rattle.nxt_asm_parts.proofs.FirstPlaces.{first_more}
use Rattle.nxt_asm_parts.proofs.firsts.FirstEntries.add.Goals as goal

pub returns : goal.returns
returns c = λ ss s size_is is.
    first_more ss s c.args.self.now _ c.args.entries c.saturating_add-self.result size_is is c.in_ok-push.ensures.ok refl c.saturating_add-self.ensures
