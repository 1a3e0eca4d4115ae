-- A worked table: a cluster of a number and of a list of lists.
use Rattle.std.proofs.Common.{◌≡◌, ℕ, List, [], ◌∷◌, inr, refl, arith}
use Rattle.std.specs.Prelude.{pos, negsuc}
use Rattle.nxt_types.specs.Shapes.{Members, no_members, member, Number, Array, Cluster}
use Rattle.nxt_types.specs.declared.kind.Kind.TheVariants.{Ubyte}
use Rattle.nxt_types.specs.declared.shape.TocEntry.{TocEntry}
use Rattle.nxt_model.specs.Values.{Num, list_of, group_of, values}
use Rattle.nxt_model.specs.Spans.{Span, spans_among, HasSpans}
use Rattle.nxt_values.specs.Fills.{all_filled}

abbrev entry : ℕ → ℕ → TocEntry
entry code desc = record { code = code; flags = 0; desc = desc }

-- in the static bytes the row number stands first, and the number behind it
abbrev table : List TocEntry
table = entry 8 2 ∷ entry 1 2 ∷ entry 7 0 ∷ entry 7 0 ∷ entry 1 0 ∷ []

abbrev shapes : Members
shapes = member (Cluster (member (Number Ubyte) (member (Array 2 (Array 1 (Number Ubyte))) no_members))) no_members

abbrev span : ℕ → ℕ → Span
span place width = record { place = place; width = width }

stand : spans_among table shapes 0 ≡ span 2 1 ∷ span 0 2 ∷ []
stand = refl

has_spans : HasSpans table shapes 3
has_spans = record {
  apart = ((inr (omega arith), tt), (tt, tt));
  fit = (
    (omega arith, ((omega arith, omega arith, omega arith, (tt, tt), (omega arith, omega arith, omega arith, (tt, tt), omega arith)), tt)),
    tt,
  );
}

-- 263 is cut to 7, and -1 to 255
fill : all_filled shapes (pos 263 ∷ pos 2 ∷ pos 1 ∷ negsuc 0 ∷ pos 0 ∷ pos 4 ∷ [])
    ≡ (values (group_of (Num (pos 7) ∷ list_of (list_of (Num (pos 255) ∷ []) ∷ list_of [] ∷ []) ∷ []) ∷ []), pos 4 ∷ [])
fill = refl
