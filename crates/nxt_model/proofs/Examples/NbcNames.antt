-- Worked texts: which declaration of a name counts.
use Rattle.std.proofs.Common.{◌≡◌, refl, Some}
use Rattle.std.specs.Prelude.{codes}
use Rattle.nxt_model.specs.Nbc.NbcRules.{Syntax, UnknownName, TwiceNamed, WrongKind}
use Rattle.nxt_model.proofs.Examples.NbcTexts.{first_broken}

-- a type is declared before the variable that has it
type_behind_variable : first_broken 9 (codes "thread main\nset d.a, 1\nendt\ndseg segment\nd P\nP struct\na byte\nP ends\ndseg ends") ≡ Some (UnknownName 2)
type_behind_variable = refl

-- and before a member that has it
type_behind_member : first_broken 12 (codes "thread main\nset d.p.a, 1\nendt\ndseg segment\nQ struct\np P\nQ ends\nd Q\nP struct\na byte\nP ends\ndseg ends") ≡ Some (UnknownName 2)
type_behind_member = refl

include_behind_variable : first_broken 7 (codes "thread main\nset d.Width, 1\nendt\ndseg segment\nd TSize\ndseg ends\n#include \"NXTDefs.h\"") ≡ Some (UnknownName 2)
include_behind_variable = refl

-- of two structs of one name the first in the text counts
own_before_header : first_broken 10 (codes "dseg segment\nTSize struct\nq byte\nTSize ends\nx TSize\ndseg ends\nthread main\nset x.q, 1\nendt\n#include \"NXTDefs.h\"") ≡ Some (TwiceNamed 2)
own_before_header = refl

own_before_header_between : first_broken 12 (codes "dseg segment\nTSize struct\nq byte\nTSize ends\ndseg ends\n#include \"NXTDefs.h\"\ndseg segment\nx TSize\ndseg ends\nthread main\nset x.q, 1\nendt") ≡ Some (TwiceNamed 2)
own_before_header_between = refl

deep_before_header : first_broken 11 (codes "dseg segment\nTSize struct\nm byte[][][][][][][]\nTSize ends\ndseg ends\n#include \"NXTDefs.h\"\ndseg segment\nx TSize[]\ndseg ends\nthread main\nendt") ≡ Some (Syntax 8)
deep_before_header = refl

-- a plain type counts before a struct of its name
plain_before_struct : first_broken 9 (codes "dseg segment\nbyte struct\na word\nbyte ends\nx byte\ndseg ends\nthread main\nset x.a, 1\nendt") ≡ Some (UnknownName 8)
plain_before_struct = refl

-- of a variable and a thread of one name the first in the text counts
thread_before_variable : first_broken 11 (codes "thread x\nendt\ndseg segment\nP struct\na byte\nP ends\nx P\ndseg ends\nthread main\nset x.a, 1\nendt") ≡ Some (UnknownName 10)
thread_before_variable = refl

variable_before_thread : first_broken 11 (codes "dseg segment\nP struct\na byte\nP ends\nx P\ndseg ends\nthread main\nset x.a, 1\nendt\nthread x\nendt") ≡ Some (TwiceNamed 10)
variable_before_thread = refl

-- and of a variable and a struct
struct_before_variable : first_broken 9 (codes "dseg segment\nx struct\na byte\nx ends\nx x\ndseg ends\nthread main\nset x.a, 1\nendt") ≡ Some (UnknownName 8)
struct_before_variable = refl

variable_before_struct : first_broken 12 (codes "dseg segment\nP struct\na byte\nP ends\nx P\nx struct\nb byte\nx ends\ndseg ends\nthread main\nset x.a, 1\nendt") ≡ Some (TwiceNamed 6)
variable_before_struct = refl

-- the header's members have its own types
header_member_kept : first_broken 12 (codes "dseg segment\nTLocation struct\na byte\nTLocation ends\ndseg ends\n#include \"NXTDefs.h\"\ndseg segment\nd TDrawText\ndseg ends\nthread main\nset d.Location.X, 1\nendt") ≡ Some (TwiceNamed 2)
header_member_kept = refl

header_member_alone : first_broken 12 (codes "dseg segment\nTLocation struct\na byte\nTLocation ends\ndseg ends\n#include \"NXTDefs.h\"\ndseg segment\nd TDrawText\ndseg ends\nthread main\nset d.Location.a, 1\nendt") ≡ Some (UnknownName 11)
header_member_alone = refl

-- an own struct's name is a type anywhere
own_struct_behind_use : first_broken 8 (codes "thread main\nwait P\nendt\ndseg segment\nP struct\na byte\nP ends\ndseg ends") ≡ Some (WrongKind 2 1)
own_struct_behind_use = refl
