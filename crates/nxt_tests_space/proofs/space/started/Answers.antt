-- The variables have the shapes of the layout.
use Rattle.std.proofs.Common.{ap, sym}
use Rattle.nxt_tests_space.proofs.space.started.Goals as goal

pub returns : goal.returns
returns c = sym (ap (λ s. s.shapes) (c.in_ok-space.ensures.start c.in_ok-layout.ensures.0 c.in_ok-layout.ensures.1))
