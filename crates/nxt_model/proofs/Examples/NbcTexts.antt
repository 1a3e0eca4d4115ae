-- Worked texts: the first broken rule, and a program.
use Rattle.std.proofs.Common.{◌≡◌, ℕ, zero, suc, ◌+◌, List, [], ◌∷◌, ◌++◌, refl, true, false, Result, Ok, Err, Option, Some, None}
use Rattle.std.specs.Prelude.{codes, find, flat_map, map, pos}
use Rattle.nxt_types.specs.Shapes.{Number, Array, cluster_of}
use Rattle.nxt_types.specs.declared.kind.Kind.TheVariants.{Ubyte, Sword}
use Rattle.nxt_types.specs.declared.kind.Cmp.TheVariants.{Lt}
use Rattle.nxt_types.specs.declared.instr.Op.TheVariants as ops
use Rattle.nxt_model.specs.Nbc.Tokens.{Token, tokens_of, lines_of}
use Rattle.nxt_model.specs.Nbc.Forms.{Formed, formed}
use Rattle.nxt_model.specs.Nbc.Text.{source_of, program_of}
use Rattle.nxt_model.specs.declared.nbc.NbcStart.TheVariants as starts
use Rattle.nxt_model.specs.declared.nbc.NbcArg.TheVariants as args
use Rattle.nxt_model.specs.TextProgram as program
use Rattle.nxt_model.specs.Nbc.NbcRules.{TextFault, Lex, Syntax, UnknownName, TwiceNamed, WrongKind, OutOfRange, NoMain, TooMany, tells}

-- ---- the first broken rule, by trying each place

abbrev pub up_to : ℕ → List ℕ
up_to zero = []
up_to (suc n) = up_to n ++ (n + 1) ∷ []

abbrev pub faults : ℕ → List TextFault
faults lines =
    map Syntax (up_to lines)
    ++ map UnknownName (up_to lines)
    ++ map TwiceNamed (up_to lines)
    ++ flat_map (λ l. map (WrongKind l) (up_to 4)) (up_to lines)
    ++ map OutOfRange (up_to lines)
    ++ NoMain ∷ TooMany 0 ∷ TooMany 1 ∷ []

abbrev pub of_tokens : List ℕ → ℕ → Result (List Token) ℕ → Option TextFault
of_tokens text lines (Err l) = Some (Lex l)
of_tokens text lines (Ok ts) = let fd = formed (lines_of text ts) in find (tells fd) (faults lines)

-- of a text of so many lines
abbrev pub first_broken : ℕ → List ℕ → Option TextFault
first_broken lines text = of_tokens text lines (tokens_of text)

no_token : first_broken 1 (codes "$") ≡ Some (Lex 1)
no_token = refl

unknown : first_broken 3 (codes "thread main\nset x, 1\nendt") ≡ Some (UnknownName 2)
unknown = refl

twice : first_broken 6 (codes "dseg segment\na byte\na word\ndseg ends\nthread main\nendt") ≡ Some (TwiceNamed 3)
twice = refl

kind : first_broken 3 (codes "thread main\nwait 'a'\nendt") ≡ Some (WrongKind 2 1)
kind = refl

range : first_broken 5 (codes "dseg segment\na byte 256\ndseg ends\nthread main\nendt") ≡ Some (OutOfRange 2)
range = refl

no_main : first_broken 2 (codes "thread t\nendt") ≡ Some NoMain
no_main = refl

no_label : first_broken 3 (codes "thread main\njmp X\nendt") ≡ Some (UnknownName 2)
no_label = refl

accepted : first_broken 2 (codes "thread main\nendt") ≡ None
accepted = refl

not_closed : first_broken 3 (codes "\nthread main\nwait 5") ≡ Some (Syntax 2)
not_closed = refl

no_member : first_broken 6 (codes "dseg segment\nP struct\nP ends\ndseg ends\nthread main\nendt") ≡ Some (Syntax 3)
no_member = refl

stored_number : first_broken 3 (codes "thread main\nmov 5, 6\nendt") ≡ Some (WrongKind 2 1)
stored_number = refl

property : first_broken 4 (codes "thread main\nsetout 0, 15, 5\nendt") ≡ Some (OutOfRange 2)
property = refl

includes : first_broken 5 (codes "#include \"NXTDefs.h\"\nthread main\nL: wait NA\nbrtst EQ, L, TRUE\nendt") ≡ None
includes = refl

taken : first_broken 4 (codes "thread main\nOUT_A: wait 1\nendt\n#include \"NXTDefs.h\"") ≡ Some (TwiceNamed 2)
taken = refl

-- ---- a program

abbrev forms_of : List ℕ → Result (List Token) ℕ → Formed
forms_of text (Ok ts) = formed (lines_of text ts)
forms_of text (Err l) = record { forms = []; bad = Some l }

abbrev parsed : List ℕ → program.Text
parsed text = program_of (source_of (forms_of text (tokens_of text)).forms)

two_threads : parsed (codes "dseg segment\nP struct\nx sword\nt byte[]\nP ends\np P\ndseg ends\nthread b\nfollows main\ncall s\nendt\nsubroutine s\nL: set p.x, 70000\njmp L\nends\nthread main\nmov p.t, 'go'\nendt")
    ≡ record {
      vars = record { shape = cluster_of (Number Sword ∷ Array 1 (Number Ubyte) ∷ []); start = starts.Zero } ∷ [];
      blocks =
          record {
            subroutine = false;
            fire = 0;
            dependents = 1 ∷ [];
            body =
                record { op = ops.Mov; cmp = Lt; args = args.Var 0 (pos 1 ∷ []) ∷ args.Text (codes "go") ∷ []; line = 17 }
                ∷ record { op = ops.Finclump; cmp = Lt; args = args.Imm 0 ∷ args.Imm 0 ∷ []; line = 18 } ∷ [];
          }
          ∷ record {
            subroutine = false;
            fire = 1;
            dependents = [];
            body =
                record { op = ops.Subcall; cmp = Lt; args = args.Block 2 ∷ args.Back 2 ∷ []; line = 10 }
                ∷ record { op = ops.Finclump; cmp = Lt; args = args.Imm 0 ∷ args.Imm 65535 ∷ []; line = 11 } ∷ [];
          }
          ∷ record {
            subroutine = true;
            fire = 1;
            dependents = [];
            body =
                record { op = ops.Set; cmp = Lt; args = args.Var 0 (pos 0 ∷ []) ∷ args.Number (pos 70000) ∷ []; line = 13 }
                ∷ record { op = ops.Jmp; cmp = Lt; args = args.Jump 0 ∷ []; line = 14 }
                ∷ record { op = ops.Subret; cmp = Lt; args = args.Back 2 ∷ []; line = 15 } ∷ [];
          }
          ∷ [];
    }
two_threads = refl

-- the line follower and the program on nested lists
follower_accepted : first_broken 25 (codes "#include \"NXTDefs.h\"\ndseg segment\n  light sword\n  dt TDrawText\ndseg ends\nthread main\n  setin IN_TYPE_LIGHT_ACTIVE, IN_3, Type\n  setin IN_MODE_PCTFULLSCALE, IN_3, InputMode\n  set dt.Location.X, 0\n  set dt.Location.Y, LCD_LINE1\n  mov dt.Text, 'go'\n  syscall DrawText, dt\nLoop:\n  getin light, IN_3, ScaledValue\n  brcmp LT, Dark, light, 45\n  setout OUT_A, OutputMode, 1, RunState, 32, Power, 75, UpdateFlags, 3\n  setout OUT_C, OutputMode, 1, RunState, 32, Power, 20, UpdateFlags, 3\n  jmp Next\nDark:\n  setout OUT_A, OutputMode, 1, RunState, 32, Power, 20, UpdateFlags, 3\n  setout OUT_C, OutputMode, 1, RunState, 32, Power, 75, UpdateFlags, 3\nNext:\n  wait 100\n  jmp Loop\nendt\n") ≡ None
follower_accepted = refl

nested_accepted : first_broken 16 (codes "#include \"NXTDefs.h\"\ndseg segment\n  a byte[] 'ab'\n  y byte[] 'hi'\n  x byte[][]\n  dt TDrawText\ndseg ends\nthread main\n  strcat a, a, a\n  arrbuild x, y, y\n  replace x, x, 0, a\n  index y, x, 1\n  index dt.Text, x, 0\n  strcat dt.Text, dt.Text, y\n  syscall DrawText, dt\nendt\n") ≡ None
nested_accepted = refl

negative_property : first_broken 3 (codes "thread main\nsetout 0, -3, 5\nendt") ≡ Some (OutOfRange 2)
negative_property = refl

-- a line without a form closes nothing, so what stays open counts too
open_and_bad : first_broken 2 (codes "thread main\nfoo") ≡ Some (Syntax 1)
open_and_bad = refl

struct_stays_open : first_broken 6 (codes "dseg segment\nP struct\na byte\ndseg ends\nthread main\nendt") ≡ Some (Syntax 1)
struct_stays_open = refl

bad_and_closed : first_broken 3 (codes "thread main\nfoo\nendt") ≡ Some (Syntax 2)
bad_and_closed = refl

-- a text for a list of an unknown type has its form
text_of_unknown_type : first_broken 5 (codes "dseg segment\nx foo[] 'ab'\ndseg ends\nthread main\nendt") ≡ Some (UnknownName 2)
text_of_unknown_type = refl

text_of_words : first_broken 5 (codes "dseg segment\nx word[] 'ab'\ndseg ends\nthread main\nendt") ≡ Some (Syntax 2)
text_of_words = refl

-- the header's structs are known behind its line
struct_before_include : first_broken 4 (codes "thread main\nwait TSize\nendt\n#include \"NXTDefs.h\"") ≡ Some (UnknownName 2)
struct_before_include = refl

-- an unknown call takes any cluster
unknown_call : first_broken 6 (codes "dseg segment\nn byte\ndseg ends\nthread main\nsyscall 99, n\nendt") ≡ Some (WrongKind 5 2)
unknown_call = refl

unknown_call_of_cluster : first_broken 9 (codes "dseg segment\nP struct\na byte\nP ends\nx P\ndseg ends\nthread main\nsyscall 99, x\nendt") ≡ Some (OutOfRange 8)
unknown_call_of_cluster = refl

-- a struct that is declared before is a type's name for labels and members
label_of_struct : first_broken 9 (codes "dseg segment\nP struct\na byte\nP ends\ndseg ends\nthread main\nP: stop 0\nendt") ≡ Some (TwiceNamed 7)
label_of_struct = refl

member_of_struct : first_broken 10 (codes "dseg segment\nP struct\na byte\nP ends\nQ struct\nP byte\nQ ends\ndseg ends\nthread main\nendt") ≡ Some (TwiceNamed 6)
member_of_struct = refl

struct_behind_label : first_broken 9 (codes "thread main\nP: stop 0\nendt\ndseg segment\nP struct\na byte\nP ends\ndseg ends") ≡ None
struct_behind_label = refl
