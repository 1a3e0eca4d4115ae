-- The six fields, one after another.
use Rattle.std.proofs.Common.{◌≡◌, ◌∙◌, refl, pos, slice_index, to_z, of_z, w64, rules}
use Rattle.nxt_model.specs.DirectCommands.{u32_at, i8_at}
use Rattle.nxt_direct.proofs.Ports.{set_out-same}
use Rattle.nxt_direct.proofs.outputs.store_fields.Goals as goal

pub returns : goal.returns
returns c =
    let limit : to_z w64 (of_z w64 c.from.result) ≡ pos (u32_at 8 c.args.bytes.now) = search rules in
    let run_state : to_z w64 (of_z w64 c.from-2.result) ≡ pos (slice_index c.args.bytes.now 7) = search rules in
    let ratio : to_z w64 (of_z w64 c.from-3.result) ≡ i8_at 6 c.args.bytes.now = search rules in
    let regulation : to_z w64 (of_z w64 c.from-4.result) ≡ pos (slice_index c.args.bytes.now 5) = search rules in
    let mode : to_z w64 (of_z w64 c.from-5.result) ≡ pos (slice_index c.args.bytes.now 4) = search rules in
    let power : to_z w64 (of_z w64 c.from-6.result) ≡ i8_at 3 c.args.bytes.now = search rules in
    c.set_out-6.ensures ∙ set_out-same c.args.port 2 _ _ _ _ power
    (c.set_out-5.ensures ∙ set_out-same c.args.port 1 _ _ _ _ mode
    (c.set_out-4.ensures ∙ set_out-same c.args.port 8 _ _ _ _ regulation
    (c.set_out-3.ensures ∙ set_out-same c.args.port 7 _ _ _ _ ratio
    (c.set_out-2.ensures ∙ set_out-same c.args.port 6 _ _ _ _ run_state
    (c.set_out.ensures ∙ set_out-same c.args.port 5 _ _ _ _ limit refl)))))
