use Rattle.std.proofs.Common.{◌≤◌, length, map, sym, ap, ◌∙◌, arith}
use Rattle.std.proofs.lemmas.List.{take_all}
use Rattle.std.proofs.lemmas.Simd.{map-map}
use Rattle.nxt_model.specs.Nbc.Header.{member_behind}
use Rattle.nxt_nbc_names.specs.HeaderSeen.{header_member_seen}
use Rattle.nxt_nbc_names.proofs.HeaderRows.{member_near}
use Rattle.nxt_nbc_names.proofs.structs.header_members.Goals as goal

pub returns : goal.returns
returns c =
    let items = c.header_struct.result.members.now in
    let over : length items ≤ c.loop-name.name-index = omega arith in
    c.loop-name.invariant
    ∙ ap (map (λ m. member_behind c.args.first (header_member_seen m))) (take_all c.loop-name.name-index items over)
    ∙ sym (map-map (member_behind c.args.first) header_member_seen items)
    ∙ ap (λ s. map (member_behind c.args.first) s.members) c.header_struct.ensures

pub type_behind-requires-clause-near : goal.type_behind-requires-clause-near
type_behind-requires-clause-near c = member_near c.header_struct.result c.args.at c.loop-name.name-index _ c.header_struct.ensures c.loop-name-test.true
