-- Worked listings.
use Rattle.std.proofs.Common.{◌≡◌, ℕ, [], ◌∷◌, refl}
use Rattle.std.specs.Prelude.{codes}
use Rattle.std.specs.Fmt.{digits}
use Rattle.nxt_types.specs.Shapes.{members, Number, Array, Mutex}
use Rattle.nxt_types.specs.declared.kind.Kind.TheVariants.{Ubyte, Sbyte}
use Rattle.nxt_types.specs.declared.shape.TocEntry.{TocEntry}
use Rattle.nxt_types.specs.declared.lists.ClumpRec.{ClumpRec}
use Rattle.nxt_rxe.specs.declared.parts.Header.{Header}
use Rattle.nxt_rxe.specs.declared.parts.Parts.{Parts}
use Rattle.nxt_list.specs.Listing.{listing}

abbrev entry : ℕ → ℕ → ℕ → TocEntry
entry code flags desc = record { code = code; flags = flags; desc = desc }

abbrev clump : ℕ → ℕ → ℕ → ClumpRec
clump fire dependents start = record { fire = fire; dependents = dependents; start = start }

-- of a file with so many entries and static bytes, clumps and words, and no dynamic bytes
abbrev plain_header : ℕ → ℕ → ℕ → ℕ → Header
plain_header entries bytes clumps words =
    record {
      toc_count = entries;
      initial = bytes;
      static_size = bytes;
      default_size = bytes;
      dyn_at = bytes;
      dyn_size = 0;
      head = 0;
      tail = 0;
      dope_at = 0;
      clump_count = clumps;
      word_count = words;
    }

-- ---- three numbers, and a setout

abbrev numbers : Parts
numbers =
    record {
      header = plain_header 3 3 1 10;
      toc = entry 1 0 0 ∷ entry 2 0 1 ∷ entry 1 0 2 ∷ [];
      defaults = 0 ∷ 75 ∷ 2 ∷ [];
      clumps = clump 0 0 0 ∷ [];
      dependents = [];
      code = 0xE031 ∷ 14 ∷ 0 ∷ 2 ∷ 1 ∷ 0 ∷ 2 ∷ 0x602A ∷ 0 ∷ 0xFFFF ∷ [];
    }

-- the size word of setout isn't listed, and finclump's positions have signs
numbers_listed : listing numbers (members (Number Ubyte ∷ Number Sbyte ∷ Number Ubyte ∷ []))
    ≡ codes "header,3,3,3,3,3,0,0,0,0,1,10\ntoc,0,ubyte,0,0\ntoc,1,sbyte,0,1\ntoc,2,ubyte,0,2\nclump,0,0,0\ncode,0,setout,0,2,1,0,2\ncode,7,finclump,0,-1\n"
unfolding digits
numbers_listed = refl

-- ---- short forms, and clumps with dependents

abbrev clumps : Parts
clumps =
    record {
      header = plain_header 3 9 3 20;
      toc = entry 1 0 0 ∷ entry 9 1 4 ∷ entry 1 0 8 ∷ [];
      defaults = 0 ∷ 0 ∷ [];
      clumps = clump 0 2 0 ∷ clump 1 0 8 ∷ clump 2 1 11 ∷ [];
      dependents = 2 ∷ 1 ∷ 2 ∷ [];
      code = 0x48FE ∷ 2 ∷ 0x2901 ∷ 0x2A01 ∷ 0x4B01 ∷ 2 ∷ 0x402B ∷ 2 ∷ 0x6527 ∷ 3 ∷ 0 ∷ 0x4029 ∷ 0xFFFF ∷ 0x6034 ∷ 7 ∷ 0xFFFF ∷ 0x8026 ∷ 0xFFF0 ∷ 2 ∷ 0 ∷ [];
    }

-- a short form is listed as the statement that it spells, each clump with its own dependents, a comparison in capitals, an
-- operand that is left out as 65535, and a jump's offset with its sign
clumps_listed : listing clumps (members (Number Ubyte ∷ Mutex ∷ Number Ubyte ∷ []))
    ≡ codes "header,3,9,9,9,9,0,0,0,0,3,20\ntoc,0,ubyte,0,0\ntoc,1,mutex,1,4\ntoc,2,ubyte,0,8\nclump,0,0,0,2,1\nclump,1,1,8\nclump,2,2,11,2\ncode,0,mov,0,2\ncode,2,acquire,1\ncode,3,release,1\ncode,4,subcall,3,2\ncode,6,finclumpimmed,2\ncode,8,brtst,NEQ,3,0\ncode,11,stop,65535\ncode,13,wait,65535\ncode,16,brcmp,LT,-16,2,0\n"
unfolding digits
clumps_listed = refl

-- ---- an array of three bytes

abbrev array : Parts
array =
    record {
      header = record {
        toc_count = 2;
        initial = 25;
        static_size = 2;
        default_size = 25;
        dyn_at = 2;
        dyn_size = 23;
        head = 0;
        tail = 0;
        dope_at = 2;
        clump_count = 1;
        word_count = 2;
      };
      toc = entry 7 0 0 ∷ entry 1 0 0 ∷ [];
      defaults = 1 ∷ 0 ∷ 2 ∷ 0 ∷ 10 ∷ 0 ∷ 2 ∷ 0 ∷ 0 ∷ 0 ∷ 0 ∷ 0 ∷ 22 ∷ 0 ∷ 1 ∷ 0 ∷ 3 ∷ 0 ∷ 9 ∷ 0 ∷ 0 ∷ 1 ∷ 97 ∷ 98 ∷ 0 ∷ [];
      clumps = clump 0 0 0 ∷ [];
      dependents = [];
      code = 0x4025 ∷ 0 ∷ [];
    }

-- row 0 is listed too
array_listed : listing array (members (Array 1 (Number Ubyte) ∷ []))
    ≡ codes "header,2,25,2,25,2,23,0,0,2,1,2\ntoc,0,array,0,0\ntoc,1,ubyte,0,0\nrow,0,2,10,2,0,0\nrow,1,22,1,3,9,256\nclump,0,0,0\ncode,0,jmp,0\n"
unfolding digits
array_listed = refl
