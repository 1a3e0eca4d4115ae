use Rattle.std.proofs.Common.{◌+◌, ◌∙◌, ◌∷◌, List, [], refl, ap, sym, drop, length, map}
use Rattle.std.proofs.lemmas.List.{at_drop_more, drop_all}
use Rattle.nxt_model.specs.Nbc.NbcRules.{Declared, is_taken, label_space}
use Rattle.nxt_nbc_names.specs.BlocksSeen.{block_seen}
use Rattle.nxt_nbc_names.specs.SourceSeen.{source_seen}
use Rattle.nxt_nbc.specs.Spaces.{least_again}
use Rattle.nxt_nbc_names.specs.declared.blocks.Block.{Block}
use Rattle.nxt_nbc.proofs.SpaceLoops.{no_space_read, space_read, all_spaces_read}
use Rattle.nxt_nbc.proofs.spaces.label_spaces.Goals as goal

abbrev spaces_of : List Block → List (List Declared)
spaces_of bs = map label_space (map block_seen bs)

pub loop-block-init : goal.loop-block-init
loop-block-init c = no_space_read (is_taken (source_seen c.args.source.now)) (spaces_of c.args.blocks.now) c.none-declared.ensures.line c.none-declared.ensures.held

pub loop-block-preserved : goal.loop-block-preserved
loop-block-preserved c =
    let blocks = c.args.blocks.now in
    let i = c.loop-block.block-index in
    let b = c.block-item.result in
    let taken = is_taken (source_seen c.args.source.now) in
    let ds = label_space (block_seen b) in
    let t = c.loop-block.invariant in
    let told =
    c.and-declared.ensures c.loop-block.declared.twice (least_again taken [] ds) t.names (length ds) (record { line = refl; held = t.held }) c.in_ok-label_space.ensures in
    space_read ds (spaces_of (drop (i + 1) blocks)) t
    (at_drop_more spaces_of blocks i b c.loop-block-test.true ∙ ap (λ x. spaces_of (x ∷ drop (i + 1) blocks)) (sym c.block-item.is)) told.line told.held

pub returns : goal.returns
returns c =
    let all = all_spaces_read c.loop-block.invariant (ap spaces_of (drop_all c.loop-block.block-index c.args.blocks.now c.loop-block-test.false)) in
    record { line = all.0; held = all.1 }
