use Rattle.std.proofs.Common.{◌∙◌, sym, true, false}
use Rattle.nxt_nbc_lines.specs.Seen.{formed_seen}
use Rattle.nxt_nbc_lines.proofs.Laws.Refused.{blocks_refused, counts_kept, main_kept, main_refused, names_refused}
use Rattle.nxt_nbc_names.specs.SourceSeen.{source_seen}
use Rattle.nxt_nbc.proofs.CountsTold.{few_names, few_told, main_told, many_names, many_told}
use Rattle.nxt_nbc.proofs.rules.check_counts.Goals as goal

pub returns-then-not-has_main-clause-refused : goal.returns-then-not-has_main-clause-refused
returns-then-not-has_main-clause-refused c = λ text ts has.
    let fd = formed_seen c.args.formed.now in
    main_refused text ts fd has c.requires.kept
    (main_told fd (source_seen c.args.source.now) c.requires.of c.in_text-blocks.result.now c.in_text-blocks.ensures false (sym c.has_main.ensures ∙ c.if-not-has_main.true))

pub returns-then-blocks-gt-MOST_BLOCKS-clause-refused : goal.returns-then-blocks-gt-MOST_BLOCKS-clause-refused
returns-then-blocks-gt-MOST_BLOCKS-clause-refused c = λ text ts has.
    let fd = formed_seen c.args.formed.now in
    let src = source_seen c.args.source.now in
    let ps = c.in_text-blocks.result.now in
    let own = c.in_text-blocks.ensures in
    let kept = main_kept fd c.requires.kept (main_told fd src c.requires.of ps own true (sym c.has_main.ensures ∙ c.if-not-has_main.false)) in
    blocks_refused text ts fd has kept (many_told fd src c.requires.of ps own c.if-blocks-gt-MOST_BLOCKS.true)

pub returns-then-names-gt-MOST_NAMES-clause-refused : goal.returns-then-names-gt-MOST_NAMES-clause-refused
returns-then-names-gt-MOST_NAMES-clause-refused c = λ text ts has.
    let fd = formed_seen c.args.formed.now in
    let src = source_seen c.args.source.now in
    let ps = c.in_text-blocks.result.now in
    let own = c.in_text-blocks.ensures in
    let kept = main_kept fd c.requires.kept (main_told fd src c.requires.of ps own true (sym c.has_main.ensures ∙ c.if-not-has_main.false)) in
    names_refused text ts fd has kept (few_told fd src c.requires.of ps own c.if-blocks-gt-MOST_BLOCKS.false)
    (many_names fd c.args.names c.requires.names c.if-names-gt-MOST_NAMES.true)

pub returns-else-names-gt-MOST_NAMES-clause-kept : goal.returns-else-names-gt-MOST_NAMES-clause-kept
returns-else-names-gt-MOST_NAMES-clause-kept c =
    let fd = formed_seen c.args.formed.now in
    let src = source_seen c.args.source.now in
    let ps = c.in_text-blocks.result.now in
    let own = c.in_text-blocks.ensures in
    let kept = main_kept fd c.requires.kept (main_told fd src c.requires.of ps own true (sym c.has_main.ensures ∙ c.if-not-has_main.false)) in
    counts_kept fd kept (few_told fd src c.requires.of ps own c.if-blocks-gt-MOST_BLOCKS.false)
    (few_names fd c.args.names c.requires.names c.if-names-gt-MOST_NAMES.false)
