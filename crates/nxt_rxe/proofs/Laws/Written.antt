-- What is written is a file of its parts.
use Rattle.std.proofs.Common.{◌%◌, [], length, sym, append-nil}
use Rattle.std.proofs.lemmas.List.{length-replicate}
use Rattle.nxt_rxe.specs.declared.parts.Parts.{Parts}
use Rattle.nxt_rxe.specs.Files.{front_bytes, middle_bytes, pad_of, HasCounts, HasDynamic, Fits, IsFile, file_of}

-- the file of parts that fit in one is theirs
pub is_file : (p : Parts) → HasCounts p → HasDynamic p.header → Fits p → IsFile (file_of p) p
is_file p counts dynamic fits =
    record {
      first_pad = pad_of (front_bytes p);
      second_pad = pad_of (middle_bytes p);
      rest = [];
      whole = sym (append-nil (file_of p));
      first = length-replicate (length (front_bytes p) % 2) 0;
      second = length-replicate (length (middle_bytes p) % 2) 0;
      counts = counts;
      dynamic = dynamic;
      fits = fits;
    }
