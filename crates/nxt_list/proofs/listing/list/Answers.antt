-- The text is written part by part.
use Rattle.std.proofs.Common.{◌≡◌, List, ℕ, ◌++◌, ap, ap₂, ◌∙◌}
use Rattle.std.specs.Prelude.{flat_map}
use Rattle.std.specs.List.{enumerate_from}
use Rattle.nxt_types.specs.declared.shape.TocEntry.{TocEntry}
use Rattle.nxt_types.specs.declared.lists.ClumpRec.{ClumpRec}
use Rattle.nxt_types.specs.Tables.{Table}
use Rattle.nxt_types.specs.Statements.{statements}
use Rattle.nxt_list.specs.Listing.{header_line, entry_line, clump_lines, statement_line}
use Rattle.nxt_list.proofs.OfFile.{listed}
use Rattle.nxt_list.proofs.listing.list.Goals as goal

pub returns : goal.returns
returns c = λ p made.
    let entries : c.entries.result.now ≡ c.args.layout.now.entries = c.entries.ensures ∙ ap (λ (t : Table). t.entries) c.toc.ensures in
    let clumps : c.as_slice.result.now ≡ c.args.code.now.clumps = c.as_slice.ensures ∙ c.clumps.ensures in
    let dependents : c.as_slice-2.result.now ≡ c.args.code.now.dependents = c.as_slice-2.ensures ∙ c.dependents.ensures in
    listed p c.args.header.now c.args.layout.now c.args.code.now
    c.push_header.new.into c.push_entries.new.into c.push_rows.new.into c.push_clumps.new.into c.push_statements.new.into
    made
    (c.in_ok-push_header.ensures ∙ ap (λ (t : List ℕ). t ++ header_line c.args.header.now) c.new-text.ensures)
    (c.in_ok-push_entries.ensures ∙ ap (λ (es : List TocEntry). c.push_header.new.into ++ flat_map entry_line (enumerate_from 0 es)) entries)
    c.in_ok-push_rows.ensures
    (c.in_ok-push_clumps.ensures ∙ ap₂ (λ (cs : List ClumpRec) (ds : List ℕ). c.push_rows.new.into ++ clump_lines cs ds) clumps dependents)
    (c.in_ok-push_statements.ensures ∙ ap (λ (ws : List ℕ). c.push_clumps.new.into ++ flat_map statement_line (statements ws)) c.words.ensures)
