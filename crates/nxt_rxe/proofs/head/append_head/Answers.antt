use Rattle.std.proofs.Common.{◌≡◌, ℕ, ◌<◌, ◌++◌, List, ap₂, subst, ◌∙◌, append_assoc, OnOk, All}
use Rattle.std.specs.List.{flat_map}
use Rattle.nxt_rxe.specs.Files.{two_bytes, format, version, numbers}
use Rattle.nxt_facts.proofs.Tests.{on_ok}
use Rattle.nxt_rxe.proofs.head.append_head.Goals as goal

pub returns-clause-spelled : goal.returns-clause-spelled
returns-clause-spelled c =
    let front : c.append-2.new.self ≡ (c.args.file.now ++ format) ++ version = c.in_ok-append-2.ensures.ok ∙ ap₂ (λ (a b : List ℕ). a ++ b) c.in_ok-append.ensures.ok c.write_u16.ensures in
    on_ok (λ e. e ∙ ap₂ (λ (a : List ℕ) (ns : List ℕ). a ++ flat_map two_bytes ns) front c.numbers_of.ensures
    ∙ append_assoc (c.args.file.now ++ format) version (flat_map two_bytes (numbers c.args.header.now))
    ∙ append_assoc c.args.file.now format (version ++ flat_map two_bytes (numbers c.args.header.now)))
    c.append_words.result c.append_words.ensures.spelled

pub returns-clause-fits : goal.returns-clause-fits
returns-clause-fits c =
    subst (λ (ns : List ℕ). OnOk c.append_words.result (All {X = ℕ} (λ n. n < 65536) ns)) c.numbers_of.ensures c.append_words.ensures.fits
