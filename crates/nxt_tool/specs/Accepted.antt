-- Accepted files and refused ones.
use Rattle.std.specs.Prelude.{◌≡◌, ℕ, List, [], ◌∷◌, map, codes, decimal}
use Rattle.nxt_types.specs.Refusals.{IsRefusal, IsAccepted}
use Rattle.nxt_types.specs.Shapes.{Members}
use Rattle.nxt_rxe.specs.declared.parts.Parts.{Parts}
use Rattle.nxt_rxe.specs.Files.{IsFile, HasCounts}
use Rattle.nxt_rxe.specs.FileRules as file_rules
use Rattle.nxt_layout.specs.LayoutRules as layout_rules
use Rattle.nxt_layout.specs.Layouts.{FileLayout, IsLayout}
use Rattle.nxt_layout.specs.Start.{HasShapes, StartsAs, image_of, start_footprint}
use Rattle.nxt_code.specs.CodeRules as code_rules
use Rattle.nxt_code.specs.Decoding.{IsDecoded}
use Rattle.nxt_code.specs.declared.code.Code.{Code as AcceptedCode}
use Rattle.nxt_list.specs.Listing.{listing}
use Rattle.nxt_model.specs.Image.{Image}
use Rattle.nxt_model.specs.Values.{Value}
use Rattle.nxt_model.specs.LineText.{line_of}
use Rattle.nxt_tool.specs.declared.fault.Refusal.{Refusal}
use Rattle.nxt_tool.specs.declared.fault.Refusal.TheVariants.{Sections, Layout, Code, Text, Assembler}
use Rattle.nxt_tool.specs.declared.fault.AcceptFault.{AcceptFault}
use Rattle.nxt_tool.specs.declared.fault.AcceptFault.TheVariants.{Refused, NoMemory}
use Rattle.nxt_tool.specs.declared.words.Description.{Description}
use Rattle.nxt_tool.specs.declared.words.Description.TheVariants.{Footprint, Listing}

-- the clumps and the code of a file whose variables have these shapes
abbrev pub code_in : Parts → Members → code_rules.Program
code_in p ss = code_rules.program ss p.clumps p.dependents p.code

-- ---- accepted files

-- the parts break no rule, and their variables have these shapes
pub record BreaksNone (p : Parts) (ss : Members) : Type 0 where
  pub layout : IsAccepted (layout_rules.Broken p)
  pub shapes : HasShapes p ss
  pub code : IsAccepted (code_rules.Broken (code_in p ss))

-- the parts break no rule, and this is the image of their program
pub record IsRun (p : Parts) (image : Image) : Type 0 where
  pub shapes : Members
  pub sound : BreaksNone p shapes
  pub vars : Value
  pub starts : StartsAs p shapes vars
  pub image_is : image ≡ image_of p shapes vars

-- the bytes are a file with this image
abbrev pub IsAcceptedAs : List ℕ → Image → Type 0
IsAcceptedAs bytes image = (p : Parts) × IsFile bytes p × IsRun p image

-- the parts break no rule, and the start of their variables needs so many bytes of the pool
pub record IsSound (p : Parts) (size : ℕ) : Type 0 where
  pub shapes : Members
  pub sound : BreaksNone p shapes
  pub vars : Value
  pub starts : StartsAs p shapes vars
  pub size_is : size ≡ start_footprint p shapes vars

-- the parts are those of a file and break no rule, and these are their layout and their code
pub record IsJudged (p : Parts) (l : FileLayout) (c : AcceptedCode) : Type 0 where
  pub counts : HasCounts p
  pub layout : IsLayout p l
  pub code : IsAccepted (code_rules.Broken (code_in p l.shapes))
  pub words : c.words ≡ p.code
  pub clumps : c.clumps ≡ p.clumps
  pub dependents : c.dependents ≡ p.dependents
  pub decoded : IsDecoded p.code c.decoded

-- the bytes are a file with such parts
abbrev pub IsSoundFile : List ℕ → ℕ → Type 0
IsSoundFile bytes size = (p : Parts) × IsFile bytes p × IsSound p size

-- the bytes are a file that breaks no rule, and this is its listing
abbrev pub IsListing : List ℕ → List ℕ → Type 0
IsListing bytes text = (p : Parts) × IsFile bytes p × (ss : Members) × BreaksNone p ss × (text ≡ listing p ss)

-- ---- refused files

-- the first broken rule of the table and the data, or else of the clumps and the code
abbrev pub RefusesParts : Parts → Refusal → Type 0
RefusesParts p (Sections f) = ⊥
RefusesParts p (Text f) = ⊥
RefusesParts p (Assembler f) = ⊥
RefusesParts p (Layout f) = IsRefusal (layout_rules.Broken p) layout_rules.rank f
RefusesParts p (Code f) =
    IsAccepted (layout_rules.Broken p) × (ss : Members) × HasShapes p ss × IsRefusal (code_rules.Broken (code_in p ss)) code_rules.rank f

-- the file is refused: by the first broken rule of its sections, or for its parts
abbrev pub IsRefused : List ℕ → Refusal → Type 0
IsRefused bytes (Sections f) = IsRefusal (file_rules.Broken bytes) file_rules.rank f
IsRefused bytes r = (p : Parts) × IsFile bytes p × RefusesParts p r

-- an answer that is no program and no footprint has its cause; want of memory is free
abbrev pub HasCause : List ℕ → AcceptFault → Type 0
HasCause bytes (Refused r) = IsRefused bytes r
HasCause bytes NoMemory = Unit {0}

abbrev pub PartsCause : Parts → AcceptFault → Type 0
PartsCause p (Refused r) = RefusesParts p r
PartsCause p NoMemory = Unit {0}

-- ---- lines

abbrev pub accepted_line : ℕ → List ℕ
accepted_line size = line_of (codes "accepted") (decimal size ∷ [])

abbrev pub refused_line : List ℕ → List ℕ
refused_line rule_and_place = line_of (codes "refused") (map decimal rule_and_place)

-- ---- what is told of an accepted file

abbrev pub IsDescribed : Description → List ℕ → List ℕ → Type 0
IsDescribed Footprint bytes text = (size : ℕ) × IsSoundFile bytes size × (text ≡ accepted_line size)
IsDescribed Listing bytes text = IsListing bytes text
