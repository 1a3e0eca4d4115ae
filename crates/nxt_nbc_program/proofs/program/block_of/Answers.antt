use Rattle.std.proofs.Common.{◌∙◌, ◌<◌, ap, sym, arith, length, map}
use Rattle.std.proofs.lemmas.List.{length-map}
use Rattle.nxt_nbc_names.specs.BlocksSeen.{block_seen}
use Rattle.nxt_nbc_names.specs.SourceSeen.{source_seen}
use Rattle.nxt_nbc_program.specs.LinksSeen.{links_seen}
use Rattle.nxt_nbc_program.specs.declared.links.Links.{Links}
use Rattle.nxt_nbc_program.proofs.Bodies.{block_is, link_at}
use Rattle.nxt_nbc_program.proofs.LinkLists.{links_count}
use Rattle.nxt_nbc_program.proofs.program.block_of.Goals as goal

pub bounds-links-number : goal.bounds-links-number
bounds-links-number c =
    let ls = c.args.links.now in
    let many = links_count (source_seen c.args.source.now) (map links_seen ls) c.requires.links in
    omega (arith, many, length-map ls links_seen, c.requires.within)

pub returns : goal.returns
returns c =
    let src = source_seen c.args.source.now in
    let ls = c.args.links.now in
    let k = c.args.number in
    let b = block_seen c.args.block.now in
    let many = links_count src (map links_seen ls) c.requires.links in
    let within : k < length ls = omega (arith, many, length-map ls links_seen, c.requires.within) in
    let link = link_at src k ls c.index-links-number.result b c.requires.links within c.index-links-number.is c.requires.block in
    let ds = c.as_slice-dependents.result.now in
    block_is src k b c.fire.result ds c.in_ok-copy_of_bytes.field-0 c.in_ok-body.body c.fire.ensures (c.as_slice-dependents.ensures ∙ ap (λ (l : Links). l.dependents) (sym c.index-links-number.is) ∙ ap (λ l. l.0) link)
    c.in_ok-copy_of_bytes.ensures c.in_ok-body.ensures
