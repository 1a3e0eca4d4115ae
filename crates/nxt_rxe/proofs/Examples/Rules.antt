-- The rules of a file's sections on worked files.
use Rattle.std.proofs.Common.{◌≡◌, ℕ, List, [], ◌∷◌, refl, take, true, false}
use Rattle.std.specs.Prelude.{find, Option, Some, None}
use Rattle.nxt_rxe.specs.declared.fault.RxeFault.{RxeFault}
use Rattle.nxt_rxe.specs.declared.fault.RxeFault.TheVariants.{Short, Format, Version, Section}
use Rattle.nxt_rxe.specs.FileRules.{breaks}
use Rattle.nxt_rxe.proofs.Examples.Images.{numbers_file, jump_file, empty_file, array_file}

-- the first broken rule among the sections, of a file that is long enough
abbrev first_section : List ℕ → Option RxeFault
first_section bytes = find (breaks bytes) (Section 0 ∷ Section 1 ∷ Section 2 ∷ Section 3 ∷ Section 4 ∷ Section 5 ∷ [])

empty_is_short : breaks [] (Short 0) ≡ true
empty_is_short = refl

numbers_whole : first_section numbers_file ≡ None
numbers_whole = refl

jump_whole : first_section jump_file ≡ None
jump_whole = refl

empty_whole : first_section empty_file ≡ None
empty_whole = refl

array_whole : first_section array_file ≡ None
array_whole = refl

version_holds : breaks numbers_file (Version 5) ≡ false
version_holds = refl

format_holds : breaks numbers_file (Format 3) ≡ false
format_holds = refl

cut_38 : first_section (take 38 numbers_file) ≡ Some (Section 0)
cut_38 = refl

cut_49 : first_section (take 49 numbers_file) ≡ Some (Section 0)
cut_49 = refl

cut_50 : first_section (take 50 numbers_file) ≡ Some (Section 1)
cut_50 = refl

cut_52 : first_section (take 52 numbers_file) ≡ Some (Section 1)
cut_52 = refl

cut_53 : first_section (take 53 numbers_file) ≡ Some (Section 3)
cut_53 = refl

cut_57 : first_section (take 57 numbers_file) ≡ Some (Section 3)
cut_57 = refl

cut_58 : first_section (take 58 numbers_file) ≡ Some (Section 5)
cut_58 = refl

cut_77 : first_section (take 77 numbers_file) ≡ Some (Section 5)
cut_77 = refl

cut_37 : breaks (take 37 numbers_file) (Short 37) ≡ true
cut_37 = refl
