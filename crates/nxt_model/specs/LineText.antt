-- The texts of a report's lines.
use Rattle.std.specs.Prelude.{ℕ, List, [], ◌∷◌, ◌++◌, flat_map, decimal, codes}
use Rattle.hex.specs.Hex.{encode_lower}
use Rattle.nxt_model.specs.declared.line.Line.{Line}
use Rattle.nxt_model.specs.declared.line.Line.TheVariants as lines
use Rattle.nxt_model.specs.declared.line.Stop.{Stop}
use Rattle.nxt_model.specs.declared.line.Stop.TheVariants as stops
use Rattle.nxt_model.specs.Means.Text.{number_text}

-- ---- fields

-- two digits a byte, the letters in lower case
abbrev pub hex_text : List ℕ → List ℕ
hex_text bytes = encode_lower bytes

-- a comma before each field, and what stands behind the last
abbrev pub fields_then : List (List ℕ) → List ℕ → List ℕ
fields_then [] last = last
fields_then (f ∷ fs) last = 44 ∷ f ++ fields_then fs last

-- with a line feed behind the last
abbrev pub fields : List (List ℕ) → List ℕ
fields fs = fields_then fs (10 ∷ [])

-- a line of fields, with its line feed
abbrev pub line_of : List ℕ → List (List ℕ) → List ℕ
line_of name fs = name ++ fields fs

-- ---- lines

abbrev pub stop_fields : Stop → List (List ℕ)
stop_fields stops.Finished = codes "finished" ∷ []
stop_fields stops.Stopped = codes "stopped" ∷ []
stop_fields (stops.Memory size) = codes "memory" ∷ decimal size ∷ []
stop_fields (stops.Active c) = codes "active" ∷ decimal c ∷ []
stop_fields (stops.NotOwner m) = codes "not_owner" ∷ decimal m ∷ []
stop_fields (stops.NoCaller n) = codes "no_caller" ∷ decimal n ∷ []
stop_fields stops.Stuck = codes "stuck" ∷ []
stop_fields stops.Telegram = codes "telegram" ∷ []

abbrev pub line_text : Line → List ℕ
line_text (lines.Motor port mode power run_state ratio regulation limit) =
    line_of (codes "motor")
    (decimal port ∷ decimal mode ∷ number_text power ∷ decimal run_state ∷ number_text ratio ∷ decimal regulation
    ∷ decimal limit ∷ [])
line_text (lines.Tone frequency duration loop level) =
    line_of (codes "tone") (decimal frequency ∷ decimal duration ∷ decimal loop ∷ decimal level ∷ [])
line_text lines.Quiet = line_of (codes "quiet") []
line_text (lines.Text x y options bytes) =
    line_of (codes "text") (number_text x ∷ number_text y ∷ number_text options ∷ hex_text bytes ∷ [])
line_text (lines.Point x y options) = line_of (codes "point") (number_text x ∷ number_text y ∷ number_text options ∷ [])
line_text (lines.Line x y x' y' options) =
    line_of (codes "line") (number_text x ∷ number_text y ∷ number_text x' ∷ number_text y' ∷ number_text options ∷ [])
line_text (lines.Circle x y size options) =
    line_of (codes "circle") (number_text x ∷ number_text y ∷ number_text size ∷ number_text options ∷ [])
line_text (lines.Rect x y width height options) =
    line_of (codes "rect") (number_text x ∷ number_text y ∷ number_text width ∷ number_text height ∷ number_text options ∷ [])
line_text (lines.Screen mode) = line_of (codes "screen") (number_text mode ∷ [])
line_text (lines.Reply bytes) = line_of (codes "reply") (hex_text bytes ∷ [])
line_text (lines.Stop why) = line_of (codes "stop") (stop_fields why)
line_text (lines.Dump table rows unsettled end) =
    line_of (codes "dump") (decimal table ∷ decimal rows ∷ decimal unsettled ∷ decimal end ∷ [])
line_text (lines.Bytes place bytes) = line_of (codes "bytes") (decimal place ∷ hex_text bytes ∷ [])

abbrev pub lines_text : List Line → List ℕ
lines_text ls = flat_map line_text ls

-- the last line of a script that was read to its end, and of one with a bad row
abbrev pub end_text : ℕ → List ℕ
end_text n = line_of (codes "end") (decimal n ∷ [])

abbrev pub bad_row_text : ℕ → List ℕ
bad_row_text n = line_of (codes "script") (decimal n ∷ [])
