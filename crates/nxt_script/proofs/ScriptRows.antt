-- Worked scripts.
use Rattle.std.proofs.Common.{◌≡◌, List, [], ◌∷◌, ◌++◌, refl, Bool, true, false, replicate}
use Rattle.std.specs.Prelude.{pos, negsuc, codes}
use Rattle.csv.specs.Machine.{next_record}
use Rattle.csv.specs.Reading.{strip_bom}
use Rattle.hex.specs.Hex.{decode_pairs}
use Rattle.nxt_model.specs.declared.event.Event.TheVariants.{Tick, Reading, Tacho, Telegram, Dump}
use Rattle.nxt_model.specs.declared.event.ScriptRow.{ScriptRow}
use Rattle.nxt_model.specs.declared.event.ScriptRow.TheVariants.{Run, One}
use Rattle.nxt_model.specs.Report.{End, Whole, Bad, TooLarge}
use Rattle.nxt_script.specs.Rows.{Listing, rows, rows_from, no_counts}

abbrev listing : List ScriptRow → End → Bool → Listing
listing rows end by_limit = record { rows = rows; end = end; by_limit = by_limit }

-- lines with a line feed, a carriage return and both, an empty line, and a last line without an end
lines_and_ends : rows (codes "run,100\n\r\ntick,5\r\nrun,0") ≡ listing (Run 100 ∷ One (Tick 5) ∷ Run 0 ∷ []) (Whole 3) false
unfolding next_record strip_bom
lines_and_ends = refl

bad_name : rows (codes "run,100\ntick,5\nfoo,1\n") ≡ listing (Run 100 ∷ One (Tick 5) ∷ []) (Bad 3) false
unfolding next_record strip_bom
bad_name = refl

-- a dump has no fields
a_dump : rows (codes "run,1\ndump\ndump,\n") ≡ listing (Run 1 ∷ One Dump ∷ []) (Bad 3) false
unfolding next_record strip_bom
a_dump = refl

reading : rows (codes "reading,2,500,512,-60\n") ≡ listing (One (Reading 2 500 512 (negsuc 59)) ∷ []) (Whole 1) false
unfolding next_record strip_bom
reading = refl

no_negative : rows (codes "reading,2,-500,512,60\n") ≡ listing [] (Bad 1) false
unfolding next_record strip_bom
no_negative = refl

-- the ends of a range, and one beyond
ends_of_ranges : rows (codes "tacho,2,-128,-2147483648,2147483647,-0\nrandom,-32769\n") ≡ listing (One (Tacho 2 (negsuc 127) (negsuc 2147483647) (pos 2147483647) (pos 0)) ∷ []) (Bad 2) false
unfolding next_record strip_bom
ends_of_ranges = refl

no_plus : rows (codes "random,+1\n") ≡ listing [] (Bad 1) false
unfolding next_record strip_bom
no_plus = refl

-- quotes are taken off
quoted : rows (codes "\"run\",\"7\"") ≡ listing (Run 7 ∷ []) (Whole 1) false
unfolding next_record strip_bom
quoted = refl

long_numeral : rows (codes "run,0000000007\nrun,00000000007") ≡ listing (Run 7 ∷ []) (Bad 2) false
unfolding next_record strip_bom
long_numeral = refl

telegrams : rows (codes "telegram,\ntelegram,000B") ≡ listing (One (Telegram []) ∷ One (Telegram (0 ∷ 11 ∷ [])) ∷ []) (Whole 2) false
unfolding next_record strip_bom decode_pairs
telegrams = refl

one_more_field : rows (codes "run,1,") ≡ listing [] (Bad 1) false
unfolding next_record strip_bom
one_more_field = refl

-- a byte order mark before a row, and one alone
byte_order_marks : rows (239 ∷ 187 ∷ 191 ∷ codes "run,1\n" ++ (239 ∷ 187 ∷ 191 ∷ [])) ≡ listing (Run 1 ∷ []) (Whole 1) false
unfolding next_record strip_bom
byte_order_marks = refl

-- 4,000,000 bytecodes, and one more
too_many : rows (codes "run,1000000\nrun,1000000\nrun,1000000\nrun,1000000\nrun,0\nrun,1\n")
    ≡ listing (Run 1000000 ∷ Run 1000000 ∷ Run 1000000 ∷ Run 1000000 ∷ Run 0 ∷ []) (Bad 6) true
unfolding next_record strip_bom
too_many = refl

-- the last dump, and one more
too_many_dumps : rows_from (record no_counts { records = 255; dumps = 255 }) (codes "dump\nrun,1\ndump\n") ≡ listing (One Dump ∷ Run 1 ∷ []) (Bad 258) true
unfolding next_record strip_bom
too_many_dumps = refl

-- a script whose last line ends past the limit
too_large : rows_from (record no_counts { bytes = 16777210; records = 4 }) (codes "run,1\nrun,2") ≡ listing (Run 1 ∷ []) TooLarge false
unfolding next_record strip_bom
too_large = refl

-- a line of 513 bytes
long_line : rows (codes "run,1\n" ++ replicate 513 97) ≡ listing (Run 1 ∷ []) (Bad 2) false
unfolding next_record strip_bom
long_line = refl
