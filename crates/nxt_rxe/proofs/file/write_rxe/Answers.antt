use Rattle.std.proofs.Common.{ℕ, List, ◌++◌, ◌<◌, ◌^◌, ◌∙◌, ap, sym, subst}
use Rattle.std.specs.Prelude.{All, flat_map}
use Rattle.nxt_types.specs.declared.shape.TocEntry.{TocEntry}
use Rattle.nxt_types.specs.declared.lists.ClumpRec.{ClumpRec}
use Rattle.nxt_rxe.specs.Files.{two_bytes, entry_bytes, clump_bytes, head_bytes, EntryFits, ClumpFits, IsFile}
use Rattle.nxt_rxe.proofs.Files.OneList.{at_most_one}
use Rattle.nxt_rxe.proofs.Files.Joined.{joined}
use Rattle.nxt_rxe.proofs.Laws.Written.{is_file}
use Rattle.nxt_rxe.proofs.file.write_rxe.Goals as goal

pub returns-clause-written : goal.returns-clause-written
returns-clause-written c =
    joined (head_bytes c.args.parts.now.header) (flat_map entry_bytes c.args.parts.now.toc) c.args.parts.now.defaults
    (flat_map clump_bytes c.args.parts.now.clumps) c.args.parts.now.dependents (flat_map two_bytes c.args.parts.now.code)
    _ _ _ _ _ _ _ _ _
    c.new-file.ensures
    c.in_ok-append_head.ensures.spelled
    (c.in_ok-append_entries.ensures.spelled ∙ ap (λ (es : List TocEntry). c.append_head.new.file ++ flat_map entry_bytes es) c.as_slice.ensures)
    (c.in_ok-append.ensures.ok ∙ ap (λ (bs : List ℕ). c.append_entries.new.file ++ bs) c.as_slice-2.ensures)
    c.in_ok-append_pad.ensures
    (c.in_ok-append_clumps.ensures.spelled ∙ ap (λ (cs : List ClumpRec). c.append_pad.new.file ++ flat_map clump_bytes cs) c.as_slice-3.ensures)
    (c.in_ok-append-2.ensures.ok ∙ ap (λ (bs : List ℕ). c.append_clumps.new.file ++ bs) c.as_slice-4.ensures)
    c.in_ok-append_pad-2.ensures
    (c.in_ok-append_words.ensures.spelled ∙ ap (λ (ws : List ℕ). c.append_pad-2.new.file ++ flat_map two_bytes ws) c.as_slice-5.ensures)

pub returns-clause-back : goal.returns-clause-back
returns-clause-back c =
    subst (λ (bytes : List ℕ). IsFile bytes c.args.parts.now) (sym (returns-clause-written c))
    (is_file c.args.parts.now c.requires.counts c.requires.dynamic record {
      header = c.in_ok-append_head.ensures.fits;
      toc = subst (λ (es : List TocEntry). All EntryFits es) c.as_slice.ensures c.in_ok-append_entries.ensures.fits;
      clumps = subst (λ (cs : List ClumpRec). All ClumpFits cs) c.as_slice-3.ensures c.in_ok-append_clumps.ensures.fits;
      code = subst (λ (ws : List ℕ). All (λ w. w < 2 ^ 16) ws) c.as_slice-5.ensures c.in_ok-append_words.ensures.fits;
    })

pub returns-clause-only : goal.returns-clause-only
returns-clause-only c = λ q f. at_most_one c.append_words.new.file q c.args.parts.now f (returns-clause-back c)
