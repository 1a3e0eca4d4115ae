-- The machine that is made of an accepted file.
use Rattle.std.proofs.Common.{◌≡◌, sym, ap, ◌∙◌}
use Rattle.nxt_code.specs.declared.code.Code.{Code as AcceptedCode}
use Rattle.nxt_rxe.specs.declared.parts.Parts.{Parts}
use Rattle.nxt_layout.specs.Layouts.{FileLayout}
use Rattle.nxt_layout.specs.Start.{image_of, file_rows}
use Rattle.nxt_machine.specs.Machines.{image_at_start}
use Rattle.nxt_tool.specs.Accepted.{IsJudged}

-- its image is that of the file
pub made_image : (p : Parts) (l : FileLayout) (c : AcceptedCode) (j : IsJudged p l c) → image_at_start l j.layout.vars c ≡ image_of p l.shapes j.layout.vars
made_image p l c j =
    let shapes : l.shapes ≡ j.layout.shapes = ap (λ (x : FileLayout). x.shapes) j.layout.layout in
    let rows : l.rows ≡ file_rows p l.shapes = ap (λ (x : FileLayout). x.rows) j.layout.layout ∙ ap (file_rows p) (sym shapes) in
    let entries : l.entries ≡ p.toc = ap (λ (x : FileLayout). x.entries) j.layout.layout in
    let static_size : l.static_size ≡ p.header.static_size = ap (λ (x : FileLayout). x.static_size) j.layout.layout in
    cc (j.words, j.clumps, j.dependents)
