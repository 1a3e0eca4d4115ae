use Rattle.std.proofs.Common.{◌≡◌, length, map, sym, ap, ap₂, ◌∙◌}
use Rattle.std.proofs.lemmas.List.{length-map}
use Rattle.nxt_model.specs.Nbc.Header.{member_behind, struct_behind}
use Rattle.nxt_model.specs.Nbc.Structs.{Types, with_struct}
use Rattle.nxt_model.specs.Nbc.Types.{Struct}
use Rattle.nxt_nbc_names.specs.HeaderSeen.{header_row}
use Rattle.nxt_nbc_names.specs.StructsSeen.{struct_seen}
use Rattle.nxt_nbc_names.proofs.HeaderRows.{rows_more}
use Rattle.nxt_nbc_names.proofs.structs.StructTable.push_header.Goals as goal

pub loop-at-preserved : goal.loop-at-preserved
loop-at-preserved c =
    let old = c.args.self.now.structs in
    let at = c.loop-at.at in
    let line = c.args.line in
    let next : Struct = record { name = c.as_bytes.result.now; members = c.in_ok-members.members; line = line } in
    let count : length c.as_slice-first.result.now ≡ length old = sym (length-map c.as_slice-first.result.now struct_seen) ∙ ap length c.as_slice-first.ensures in
    let here : next ≡ struct_behind (length old) line (header_row at) =
    ap₂ (λ n ms. record { name = n; members = ms; line = line })
    (c.as_bytes.ensures.value ∙ ap (λ (s : Struct). s.name) c.header_struct.ensures)
    (c.in_ok-members.ensures ∙ ap (λ k. map (member_behind k) (header_row at).members) count) in
    record {
      types =
          c.in_ok-push.ensures.types
          ∙ ap (λ (t : Types). with_struct t next.name next.members line) c.loop-at.invariant.types
          ∙ ap (λ ss. record c.args.self.now { structs = ss }) (rows_more (length old) line at old next c.loop-at-test.true here);
      rises = c.in_ok-push.ensures.rises;
    }
