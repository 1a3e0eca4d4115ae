-- What holds of the parts of a file that breaks no rule, by their layout.
use Rattle.std.proofs.Common.{◌≡◌, sym, ap, ◌∙◌, subst}
use Rattle.nxt_rxe.specs.declared.parts.Parts.{Parts}
use Rattle.nxt_layout.specs.Layouts.{FileLayout}
use Rattle.nxt_code.specs.declared.code.Code.{Code as AcceptedCode}
use Rattle.nxt_layout.specs.Start.{image_of, StartsAs, start_footprint}
use Rattle.nxt_model.specs.Image.{Image}
use Rattle.nxt_tool.specs.Accepted.{BreaksNone, IsJudged, IsRun, IsSound}

shapes_are : (p : Parts) (l : FileLayout) (c : AcceptedCode) (j : IsJudged p l c) → j.layout.shapes ≡ l.shapes
shapes_are p l c j = sym (ap (λ (x : FileLayout). x.shapes) j.layout.layout)

start_is : (p : Parts) (l : FileLayout) (c : AcceptedCode) (j : IsJudged p l c) → StartsAs p l.shapes j.layout.vars
start_is p l c j = subst (λ ss. StartsAs p ss j.layout.vars) (shapes_are p l c j) j.layout.starts

pub breaks_none : (p : Parts) (l : FileLayout) (c : AcceptedCode) → IsJudged p l c → BreaksNone p l.shapes
breaks_none p l c j = record { layout = j.layout.accepted; shapes = (start_is p l c j).shapes; code = j.code }

pub judged_sound : (p : Parts) (l : FileLayout) (c : AcceptedCode) → IsJudged p l c → IsSound p l.footprint
judged_sound p l c j =
    record {
      shapes = l.shapes;
      sound = breaks_none p l c j;
      vars = j.layout.vars;
      starts = start_is p l c j;
      size_is =
          ap (λ (x : FileLayout). x.footprint) j.layout.layout ∙ ap (λ ss. start_footprint p ss j.layout.vars) (shapes_are p l c j);
    }

pub judged_run : (p : Parts) (l : FileLayout) (c : AcceptedCode) (j : IsJudged p l c) (image : Image) → image ≡ image_of p l.shapes j.layout.vars → IsRun p image
judged_run p l c j image is =
    record {
      shapes = l.shapes;
      sound = breaks_none p l c j;
      vars = j.layout.vars;
      starts = start_is p l c j;
      image_is = is;
    }
