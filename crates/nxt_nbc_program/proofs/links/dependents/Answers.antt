use Rattle.std.proofs.Common.{◌≡◌, ◌∙◌, ◌++◌, [], ap, cond, sym, map}
use Rattle.std.specs.Prelude.{filter_map, flat_map}
use Rattle.std.proofs.lemmas.Result.{IfOk-weaker}
use Rattle.nxt_model.specs.Nbc.Text.{dependents_of, followers_of, once, preceded_by}
use Rattle.nxt_nbc_names.specs.BlocksSeen.{block_seen}
use Rattle.nxt_nbc_names.specs.SourceSeen.{source_seen}
use Rattle.nxt_nbc_program.specs.Links.{follows}
use Rattle.nxt_nbc_program.specs.LinksSeen.{follower_seen}
use Rattle.nxt_nbc_program.proofs.LinkLists.{dependents_by}
use Rattle.nxt_nbc_program.proofs.links.dependents.Goals as goal

pub returns : goal.returns
returns c =
    let src = source_seen c.args.source.now in
    let k = c.args.number in
    let b = block_seen c.args.block.now in
    let front = flat_map (preceded_by src) b.items in
    let numbers = c.as_slice.ensures ∙ c.in_ok-push_followers.ensures ∙ ap (λ ks. ks ++ filter_map (follows k) (map follower_seen c.args.followers.now)) c.in_ok-numbers.ensures in
    IfOk-weaker c.once.result (λ ks. ks ≡ once [] c.as_slice.result.now) (λ ks. ks ≡ dependents_of src k b)
    (λ ks e.
    e ∙ ap (once []) numbers ∙ dependents_by src k b (map follower_seen c.args.followers.now) c.requires.followers
    ∙ sym (ap (λ s. cond s [] (once [] (front ++ followers_of src k))) c.if-block.false))
    c.once.ensures
