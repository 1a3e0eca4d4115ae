-- The parts of the program of a text that keeps all rules are those of a file.
use Rattle.std.proofs.Common.{ℕ, ◌+◌, ◌<◌, ◌≤◌, ◌^◌, List, [], ◌∷◌, drop, length, sum_by, arith}
use Rattle.std.specs.Prelude.{All}
use Rattle.std.proofs.lemmas.List.Elements.{All-from_recursion, recursion_from_All}
use Rattle.std.proofs.lemmas.List.Sums.{sum_by-cons}
use Rattle.nxt_types.specs.Refusals.{IsAccepted}
use Rattle.nxt_types.specs.Shapes.{Shape, Void, Number, Array, Cluster, Mutex, Members, no_members, member, members, code_of}
use Rattle.nxt_types.specs.declared.kind.Kind.{Kind}
use Rattle.nxt_types.specs.declared.kind.Kind.TheVariants.{Ubyte, Sbyte, Uword, Sword, Ulong, Slong}
use Rattle.nxt_types.specs.declared.shape.TocEntry.{TocEntry}
use Rattle.nxt_model.specs.Assembled.{all_entries, all_shapes, block_words, code_from, entries_of, leaf_sizes, leaves_sizes, places, records_from}
use Rattle.nxt_model.specs.TextProgram.{Text, static_size, text_of}
use Rattle.nxt_model.specs.declared.nbc.NbcBlock.{NbcBlock}
use Rattle.nxt_model.specs.declared.nbc.NbcProgram.{NbcProgram}
use Rattle.nxt_rxe.specs.Files.{ClumpFits, EntryFits, IsFile, file_of, numbers}
use Rattle.nxt_rxe.proofs.Laws.Written.{is_file}
use Rattle.nxt_nbc.specs.Checked.{IsParsed}
use Rattle.nxt_asm_parts.specs.AssembledParts.{Valued, arrays_of, dope_place, dynamic_defaults, header_of, parts_of, static_defaults}
use Rattle.nxt_asm_parts.specs.Sound.{IsSound}
use Rattle.nxt_asm_laws.proofs.Laws.Fires.{fires_below}
use Rattle.nxt_asm_laws.proofs.Laws.Lists.{Each, each_append, each_both, each_weaker}
use Rattle.nxt_asm_laws.proofs.Laws.Texts.{sound}
use Rattle.nxt_asm_rules.specs.AsmRules.{Broken}
use Rattle.nxt_asm_rules.specs.Fits.{PartsFit}
use Rattle.nxt_asm_rules.proofs.Laws.Counts.{code_length, records_length, table_length}
use Rattle.nxt_asm_rules.proofs.Laws.Fitting.{parts_fit}

-- ---- entries

abbrev HasBytes : TocEntry → Type 0
HasBytes e = (e.code < 256) × (e.flags < 256)

code_below : (k : Kind) → code_of k < 256
code_below Ubyte = omega arith
code_below Sbyte = omega arith
code_below Uword = omega arith
code_below Sword = omega arith
code_below Ulong = omega arith
code_below Slong = omega arith

mutual
  entries_below : (s : Shape) (ps : List ℕ) → Each HasBytes (entries_of s ps)
  entries_below Void ps = ((omega arith, omega arith), tt)
  entries_below (Number k) ps = ((code_below k, omega arith), tt)
  entries_below (Array n s) ps = ((omega arith, omega arith), entries_below s (places (leaf_sizes s)))
  entries_below (Cluster ss) ps = ((omega arith, omega arith), all_below ss ps)
  entries_below Mutex ps = ((omega arith, omega arith), tt)

  all_below : (ss : Members) (ps : List ℕ) → Each HasBytes (all_entries ss ps)
  all_below no_members ps = tt
  all_below (member s ss) ps =
      let rest = drop (length (leaf_sizes s)) ps in each_append HasBytes (entries_of s ps) (all_entries ss rest) (entries_below s ps) (all_below ss rest)

entries_fit : (es : List TocEntry) → Each HasBytes es → All (λ e. e.desc < 2 ^ 16) es → All EntryFits es
entries_fit es below places =
    let both = each_both HasBytes (λ e. e.desc < 2 ^ 16) es below (recursion_from_All (λ (e : TocEntry). e.desc < 2 ^ 16) es places) in
    All-from_recursion EntryFits es (each_weaker _ EntryFits es (λ e h. (h.0.0, h.0.1, h.1)) both)

-- ---- clump records

records_fit : (here : ℕ) (bs : List NbcBlock) → Each (λ b. b.fire < 256) bs → Each (λ b. length b.dependents < 256) bs → here + sum_by block_words bs ≤ 65535
    → Each ClumpFits (records_from here bs)
records_fit here [] fires dependents room = tt
records_fit here (b ∷ bs) fires dependents room =
    let more = sum_by-cons block_words b bs in
    let start : here < 2 ^ 16 = omega (arith, room) in
    let next : here + block_words b + sum_by block_words bs ≤ 65535 = omega (arith, room, more) in
    ((fires.0, dependents.0, start), records_fit (here + block_words b) bs fires.1 dependents.1 next)

-- ---- the header

dope_below : (static_size : ℕ) (as' : List Valued) → static_size ≤ 32768 → dope_place static_size as' < 2 ^ 16
dope_below static_size [] small = omega arith
dope_below static_size (a ∷ as') small = omega (arith, small)

module _ (p : NbcProgram) (is : IsSound p) (fires : Each (λ b. b.fire < 256) p.blocks) (kept : IsAccepted (Broken (text_of p))) where
  abbrev t : Text
  t = text_of p

  fit : PartsFit t
  fit = parts_fit p is kept

  dependents_below : Each (λ b. length b.dependents < 256) p.blocks
  dependents_below = recursion_from_All (λ b. length b.dependents < 256) p.blocks is.dependents

  header_fits : All (λ n. n < 2 ^ 16) (numbers (header_of t))
  header_fits =
      let ss = members (all_shapes t) in
      let entries : length (all_entries ss (places (leaves_sizes ss))) < 2 ^ 16 = omega (arith, fit.entries, table_length ss (places (leaves_sizes ss))) in
      let initial : static_size t + length (dynamic_defaults t) < 2 ^ 16 = omega (arith, fit.dataspace) in
      let static : static_size t < 2 ^ 16 = omega (arith, fit.dataspace) in
      let defaults : length (static_defaults t) + length (dynamic_defaults t) < 2 ^ 16 = omega (arith, fit.dataspace, fit.static) in
      let dyn_at : length (static_defaults t) < 2 ^ 16 = omega (arith, fit.dataspace, fit.static) in
      let dyn_size : length (dynamic_defaults t) < 2 ^ 16 = omega (arith, fit.dataspace) in
      let dope : dope_place (static_size t) (arrays_of t) < 2 ^ 16 = dope_below (static_size t) (arrays_of t) (omega (arith, fit.dataspace)) in
      let clumps : length (records_from 0 p.blocks) < 2 ^ 16 = omega (arith, is.blocks, records_length 0 p.blocks) in
      let words : length (code_from t 0 p.blocks) < 2 ^ 16 = omega (arith, fit.size, code_length t 0 p.blocks) in
      let none : 0 < 2 ^ 16 = omega arith in
      All-from_recursion (λ n. n < 2 ^ 16) (numbers (header_of t))
      (entries, (initial, (static, (defaults, (dyn_at, (dyn_size, (none, (none, (dope, (clumps, (words, tt)))))))))))

  parts_are_file : IsFile (file_of (parts_of t)) (parts_of t)
  parts_are_file =
      let room : 0 + sum_by block_words p.blocks ≤ 65535 = omega (arith, fit.size) in
      is_file (parts_of t) fit.counts fit.dynamic
      record {
        header = header_fits;
        toc = let ss = members (all_shapes t) in entries_fit (all_entries ss (places (leaves_sizes ss))) (all_below ss (places (leaves_sizes ss))) fit.places;
        clumps = All-from_recursion ClumpFits (records_from 0 p.blocks) (records_fit 0 p.blocks fires dependents_below room);
        code = fit.code;
      }

-- the file of the parts of an accepted program is theirs
pub file_is : (text : List ℕ) (p : NbcProgram) → IsParsed text p → IsAccepted (Broken (text_of p)) → IsFile (file_of (parts_of (text_of p))) (parts_of (text_of p))
file_is text p parsed kept = let is = sound text p parsed in parts_are_file p is (fires_below text p parsed is) kept
