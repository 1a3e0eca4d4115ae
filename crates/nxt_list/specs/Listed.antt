-- What is listed: the header, the layout and the code of a file that is accepted.
use Rattle.std.specs.Prelude.{◌≡◌, length}
use Rattle.nxt_rxe.specs.declared.parts.Header.{Header}
use Rattle.nxt_rxe.specs.declared.parts.Parts.{Parts}
use Rattle.nxt_rxe.specs.Files.{dependent_count}
use Rattle.nxt_layout.specs.Layouts.{FileLayout, IsLayout}
use Rattle.nxt_code.specs.declared.code.Code.{Code as AcceptedCode}
use Rattle.nxt_code.specs.Decoding.{IsDecoded}

-- the header, the layout and the code are those of these parts
pub record AreOfParts (p : Parts) (h : Header) (l : FileLayout) (c : AcceptedCode) : Type 0 where
  pub header : h ≡ p.header
  pub layout : IsLayout p l
  pub words : c.words ≡ p.code
  pub clumps : c.clumps ≡ p.clumps
  pub dependents : c.dependents ≡ p.dependents
  pub counted : length p.dependents ≡ dependent_count p.clumps
  pub decoded : IsDecoded p.code c.decoded
