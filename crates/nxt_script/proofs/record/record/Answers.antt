use Rattle.std.proofs.Common.{◌≡◌, [], ◌∷◌, None, refl, ap, sym, ◌∙◌, arith}
use Rattle.std.proofs.lemmas.Slice.Eq.{bytes_eq-Decides}
use Rattle.std.proofs.lemmas.List.{nil_from_length}
use Rattle.std.proofs.lemmas.Bool.Decides.{nat_tests}
use Rattle.csv.specs.Machine.{next_record}
use Rattle.csv.specs.Reading.{strip_bom}
use Rattle.nxt_script.specs.Rows.{record_of}
use Rattle.nxt_script.proofs.record.record.Goals as goal
use Rattle.nxt_script.proofs.record.record.Goals.{then-is_empty-via-then-is_empty, then-is_empty-via-else-is_empty+then-eq}

no_bytes : None ≡ record_of []
unfolding next_record strip_bom
no_bytes = refl

only_mark : None ≡ record_of (239 ∷ 187 ∷ 191 ∷ [])
unfolding next_record strip_bom
only_mark = refl

pub returns-then-is_empty : goal.returns-then-is_empty
returns-then-is_empty c =
    let line = c.args.line.now in
    elim c.then-is_empty.branch [ then-is_empty-via-then-is_empty w ↦ (let e : line ≡ [] = nil_from_length line (grind (arith, nat_tests)) in no_bytes ∙ ap record_of (sym e)) | then-is_empty-via-else-is_empty+then-eq w ↦ (let e : line ≡ 239 ∷ 187 ∷ 191 ∷ [] = (bytes_eq-Decides line (239 ∷ 187 ∷ 191 ∷ [])).0 (sym w.eq.ensures ∙ w.if-eq.true) in only_mark ∙ ap record_of (sym e)) ]
