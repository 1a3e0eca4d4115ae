-- A system call.
use Rattle.std.proofs.Common.{◌≡◌, ℕ, ◌+◌, Bool, true, false, List, [], ◌∷◌, ◌++◌, Some, refl, sym, ap, ap₂, ◌∙◌, subst, arith}
use Rattle.std.specs.Prelude.{negsuc, if◌then◌else◌, nat_lt, option_map, slice_index_or}
use Rattle.std.proofs.lemmas.Bool.Decides.{nat_tests}
use Rattle.nxt_types.specs.Calls.{call_of, is_cluster_of}
use Rattle.nxt_types.specs.Names.{Name, named}
use Rattle.nxt_types.specs.Shapes.{Shape}
use Rattle.nxt_types.specs.Statements.{statement_of}
use Rattle.nxt_types.specs.declared.calls.Call.{Call}
use Rattle.nxt_types.specs.declared.calls.Call.TheVariants as calls
use Rattle.nxt_types.specs.declared.calls.Field.TheVariants.{Text as a_text}
use Rattle.nxt_types.specs.declared.instr.Instr.{Instr}
use Rattle.nxt_types.specs.declared.instr.Op.TheVariants as ops
use Rattle.nxt_model.specs.Devices.{Devices, changed, mailbox}
use Rattle.nxt_model.specs.Dump.{Written, written_by, written_under}
use Rattle.nxt_model.specs.Means.Effects.{Effect}
use Rattle.nxt_model.specs.SystemCalls.{Clock, answers, fields, field_word, is_set, num, read_mailbox, read_message, system_call}
use Rattle.nxt_model.specs.Values.{Value, Num, byte_list}
use Rattle.nxt_model.specs.Variables.{Reference, Plain, PartOf, Absent, part_of}
use Rattle.nxt_space.specs.Variables.{SpaceViews, AreSound, shape_of, value_of}
use Rattle.nxt_operands.proofs.Laws.Named.{named_some}
use Rattle.nxt_sys.specs.Fields.{IsMember, member_name}
use Rattle.nxt_sys.specs.Keeping.{LeavesAfter, LeavesMessage}
use Rattle.nxt_sys.proofs.Laws.Named.{entry}
use Rattle.nxt_machine.specs.Inside.Keeping.{StaysBy, StatementStays}
use Rattle.nxt_machine.proofs.Keeping.Parts.{part_at, part_named, part_there, first_stays, stays_more, still_stays}
use Rattle.nxt_machine.proofs.Meanings.Acts.{syscall_refers}
use Rattle.nxt_machine.proofs.Meanings.Calls.{IsCall, gives_call}

-- a result and a message are written, to two members of the cluster
both_written : (rs : List Reference) (before after x y : Value) (s : Shape) (n : Name) → slice_index_or rs 1 Absent ≡ PartOf n
    → written_by rs before after (fields s ((0, x) ∷ (3, y) ∷ [])) ≡ part_named (member_name 0 n) before after ∷ part_named (member_name 3 n) before after ∷ []
both_written rs before after x y s n e = ap (λ r. written_under r (0 ∷ []) before after ++ (written_under r (3 ∷ []) before after ++ [])) e

module _ (s new : SpaceViews) (i : Instr) (words : List ℕ) (d : Devices) (t : Clock) (op : i.op ≡ ops.Syscall) (sound : AreSound s.vars) (is : IsCall s.vars i) (same : new.vars.shapes ≡ s.vars.shapes) where
  -- what its words refer to
  abbrev refer : List Reference
  refer = Plain i.a ∷ part_of (named s.vars.shapes i.b) ∷ []

  -- what an effect of it writes
  abbrev writes : Effect → List Written
  writes e = written_by refer s.vars.values new.vars.values e.stores

  abbrev shape : Shape
  shape = shape_of s.vars i.b

  abbrev value : Value
  value = value_of s.vars i.b

  -- ---- a message that is read

  message_stays : (x y : Value) → is.call ≡ calls.ReadMessage → LeavesMessage i.b s new → StaysBy (written_by refer s.vars.values new.vars.values (fields shape ((0, x) ∷ (3, y) ∷ []))) s new
  message_stays x y reads left =
      let n = is.cluster.named.name in
      let before = s.vars.values in
      let after = new.vars.values in
      let there : IsMember s.vars i.b 3 a_text (i.b + 4) =
      entry s.vars calls.ReadMessage i.b 3 (i.b + 4) a_text
      (record {
        group = record { sound = sound; named = named_some s.vars i.b is.cluster.named; shape = ap (λ c. is_cluster_of c shape) (sym reads) ∙ is.cluster.has };
        field = refl;
      })
      refl in
      let text = part_there s.vars new.vars (i.b + 4) (member_name 3 n) (there.name ∙ ap (option_map (member_name 3)) is.cluster.named.by_entry) same in
      let all : written_by refer before after (fields shape ((0, x) ∷ (3, y) ∷ [])) ≡ part_named (member_name 0 n) before after ∷ part_at s.vars new.vars (i.b + 4) ∷ [] =
      both_written refer before after x y shape n (ap part_of is.cluster.named.by_word)
      ∙ ap (λ w. part_named (member_name 0 n) before after ∷ w ∷ []) text in
      subst
      (λ ws. StaysBy ws s new)
      (sym all)
      (stays_more (part_named (member_name 0 n) before after) (part_at s.vars new.vars (i.b + 4) ∷ []) s new (first_stays (i.b + 4) [] s new (left.text (i.b + 4) there)))

  -- by the messages of the mailbox
  oldest_stays : (ms : List (List ℕ)) → is.call ≡ calls.ReadMessage → LeavesMessage i.b s new → StaysBy (writes (read_message shape (field_word 1 value) ms (is_set (field_word 2 value)) d)) s new
  oldest_stays [] reads left = message_stays (num 64) (byte_list (0 ∷ [])) reads left
  oldest_stays (m ∷ ms) reads left = message_stays (num 0) (byte_list m) reads left

  reading_stays : is.call ≡ calls.ReadMessage → LeavesMessage i.b s new → StaysBy (writes (read_mailbox shape (field_word 1 value) (is_set (field_word 2 value)) d)) s new
  reading_stays reads left = by (nat_lt 19 (field_word 1 value)) refl
    where
      by : (b : Bool) → nat_lt 19 (field_word 1 value) ≡ b → StaysBy (writes (if b then answers shape ((0, Num (negsuc 17)) ∷ []) (changed d []) else read_message shape (field_word 1 value) (mailbox (field_word 1 value) d) (is_set (field_word 2 value)) d)) s new
      by true e = still_stays _ s new (left.missing (grind (arith, nat_tests, e)))
      by false e = oldest_stays (mailbox (field_word 1 value) d) reads left

  -- ---- the call

  by_call : (c : Call) → is.call ≡ c → LeavesAfter (Some c) i.b s new → StaysBy (writes (system_call (Some c) shape value d t)) s new
  by_call calls.ReadMessage reads left = reading_stays reads left
  by_call _ other left = still_stays _ s new left

  pub called_stays : LeavesAfter (call_of i.a) i.b s new → StatementStays t (statement_of i words) d s new
  called_stays left =
      let gave = gives_call s.vars i words d t op is.cluster.named ∙ ap (λ c. system_call c shape value d t) is.known in
      let all = ap₂ (λ rs (e : Effect). written_by rs s.vars.values new.vars.values e.stores) (syscall_refers s.vars i words d t op) gave in
      subst
      (λ ws. StaysBy ws s new)
      (sym all)
      (by_call is.call refl (subst (λ c. LeavesAfter c i.b s new) is.known left))
