-- In place the bytes become the list, or are refused.
use Rattle.nxt_space.proofs.Laws.InBytes.{text_numbers}
use Rattle.nxt_space.specs.Spots.{numbers_in_bytes}
use Rattle.nxt_texts.proofs.InPlace.{bytes_refused, bytes_set, spot_kind}
use Rattle.nxt_texts.proofs.text.store_bytes.Goals as goal

pub returns-in_err-set_list-clause-stores : goal.returns-in_err-set_list-clause-stores
returns-in_err-set_list-clause-stores c =
    let s = c.args.space.now.vars in
    let list = c.in-Some.list in
    let bs = c.args.bytes.now in
    let is = c.in-Some.ensures.found in
    let same = text_numbers list.kind bs (spot_kind s c.args.dest list is c.requires.text) in
    bytes_refused c.args.space.now c.set_list.new.self c.args.dest list bs (numbers_in_bytes list.kind bs) c.from_residual.result is c.requires.text same c.from_residual.ensures.1 (c.in_err-set_list.ensures.becomes c.args.dest is)

pub returns-in-Some-clause-stores : goal.returns-in-Some-clause-stores
returns-in-Some-clause-stores c =
    let s = c.args.space.now.vars in
    let list = c.in-Some.list in
    let bs = c.args.bytes.now in
    let is = c.in-Some.ensures.found in
    let same = text_numbers list.kind bs (spot_kind s c.args.dest list is c.requires.text) in
    bytes_set c.args.space.now c.set_list.new.self c.args.dest list bs (numbers_in_bytes list.kind bs) is c.requires.text same (c.in_ok-set_list.ensures.becomes c.args.dest is)
