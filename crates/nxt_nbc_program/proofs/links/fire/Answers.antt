use Rattle.std.proofs.Common.{ℕ, ◌||◌, ◌∙◌, ap, sym, cond, arith, map}
use Rattle.std.proofs.lemmas.List.{length-map}
use Rattle.std.specs.Prelude.{count_by, flat_map}
use Rattle.std.proofs.lemmas.List.Sums.{count_by-le-length}
use Rattle.nxt_model.specs.Nbc.Text.{dependents_of, exited_by, holds_number, is_main, numbered}
use Rattle.nxt_nbc_names.specs.BlocksSeen.{block_seen}
use Rattle.nxt_nbc_names.specs.SourceSeen.{source_seen}
use Rattle.nxt_nbc_program.specs.Links.{lowers}
use Rattle.nxt_nbc_program.specs.LinksSeen.{links_seen}
use Rattle.nxt_nbc_program.proofs.LinkLists.{links_count, lowering_count}
use Rattle.nxt_nbc_program.proofs.links.fire.Goals as goal

pub overflow_cast-result : goal.overflow_cast-result
overflow_cast-result c =
    let ls = c.args.links.now in
    let many = links_count (source_seen c.args.source.now) (map links_seen ls) c.requires.links in
    omega (arith, c.lowering.ensures, count_by-le-length (λ l. lowers c.args.number (links_seen l)) ls, length-map ls links_seen, many, c.requires.few)

pub returns-else-is_main : goal.returns-else-is_main
returns-else-is_main c =
    let src = source_seen c.args.source.now in
    let k = c.args.number in
    let b = block_seen c.args.block.now in
    let ls = c.args.links.now in
    let many : ℕ = count_by (λ x. holds_number (dependents_of src x.0 x.1) k || holds_number (flat_map (exited_by src) x.1.items) k) (numbered src) in
    c.lowering.ensures ∙ lowering_count src k ls c.requires.links
    ∙ sym (ap (λ m. cond m 0 many) (sym c.is_main.ensures ∙ c.if-is_main.false))
    ∙ sym (ap (λ s. cond s 1 (cond (is_main b) 0 many)) c.if-block.false)
