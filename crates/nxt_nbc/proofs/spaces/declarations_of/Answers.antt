use Rattle.std.proofs.Common.{◌+◌, ◌∙◌, ℕ, List, [], nat_lt, ap, sym, subst, length, map, filter_map, sum_by}
use Rattle.nxt_model.specs.Nbc.Forms.{Form}
use Rattle.nxt_model.specs.Nbc.Text.{Block}
use Rattle.nxt_model.specs.Nbc.NbcRules.{Declared, TwiceNamed, is_taken, label_space, member_spaces, shared_name, tells}
use Rattle.nxt_nbc_lines.specs.Firsts.{IsLeast, lesser}
use Rattle.nxt_nbc_lines.specs.Seen.{formed_seen, line_form_seen}
use Rattle.nxt_nbc_names.specs.BlocksSeen.{block_seen}
use Rattle.nxt_nbc_names.specs.SourceSeen.{source_seen}
use Rattle.nxt_nbc.specs.Spaces.{least_again, least_in_spaces}
use Rattle.nxt_nbc.specs.SpacesSeen.{Tells}
use Rattle.nxt_nbc.proofs.SpacesTold.{twice_in, count_in, twice_told, count_told}
use Rattle.nxt_nbc.proofs.spaces.declarations_of.Goals as goal

-- what the three kinds of spaces tell
all_told : (c : goal.After-and-2)
    → Tells c.and-2.result (twice_in (is_taken (source_seen c.args.source.now)) (map line_form_seen c.args.formed.now.forms) c.args.source.now.blocks)
    (count_in (map line_form_seen c.args.formed.now.forms) c.args.source.now.blocks)
all_told c =
    let taken = is_taken (source_seen c.args.source.now) in
    let sum : List (List Declared) → ℕ = sum_by (λ ds. length ds) in
    let fs : List (ℕ × Form) = map line_form_seen c.as_slice-lines.result.now in
    let bs : List Block = map block_seen c.in_text.result.now in
    let names = filter_map shared_name fs in
    let members = member_spaces fs in
    let labels = map label_space bs in
    let two = c.and.ensures (least_again taken [] names) (least_in_spaces taken members) (length names) (sum members) c.in_ok-shared.ensures c.in_ok-members.ensures in
    let three =
    c.and-2.ensures (lesser (least_again taken [] names) (least_in_spaces taken members)) (least_in_spaces taken labels) (length names + sum members) (sum labels) two c.in_ok-labels.ensures in
    subst (λ gs. Tells c.and-2.result (twice_in taken gs c.args.source.now.blocks) (count_in gs c.args.source.now.blocks)) (ap (map line_form_seen) c.as_slice-lines.ensures)
    (subst (λ cs. Tells c.and-2.result (twice_in taken fs cs) (count_in fs cs)) c.in_text.ensures three)

pub returns-clause-twice : goal.returns-clause-twice
returns-clause-twice c =
    let fd = formed_seen c.args.formed.now in
    subst (λ o. IsLeast (λ l. tells fd (TwiceNamed l)) o) (sym (all_told c).line) (twice_told fd (source_seen c.args.source.now) c.requires.of)

pub returns-clause-count : goal.returns-clause-count
returns-clause-count c =
    ap (nat_lt 10000) (all_told c).held ∙ count_told (formed_seen c.args.formed.now) (source_seen c.args.source.now) c.requires.of
