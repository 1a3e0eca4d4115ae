-- The variables keep the table of the file's layout.
use Rattle.std.proofs.Common.{sym, ap, ◌∙◌}
use Rattle.nxt_tests_statements.proofs.statements.check.Goals as goal

pub play-requires : goal.play-requires
play-requires g c =
    let start = c.in_ok-space.ensures.start c.requires.0 c.requires.1 in
    record {
      entries = ap (λ t. t.entries) c.toc-toc.ensures ∙ sym (ap (λ s. s.entries) start);
      shapes = ap (λ t. t.shapes) c.toc-toc.ensures ∙ sym (ap (λ s. s.shapes) start);
    }
