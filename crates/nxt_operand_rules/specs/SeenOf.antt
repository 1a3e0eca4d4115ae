-- What is seen of an operand.
use Rattle.nxt_types.specs.Shapes.{Shape, Void, Number, Array, Cluster, Mutex}
use Rattle.nxt_types.specs.OperandRules.{Sort, Part, Word, Absent, Unknown}
use Rattle.nxt_types.specs.declared.kind.Kind.TheVariants.{Ubyte}
use Rattle.nxt_operand_rules.specs.declared.seen.Seen.{Seen}
use Rattle.nxt_operand_rules.specs.declared.seen.Seen.TheVariants as look

-- of a list, by its elements
abbrev pub seen_by_element : Shape → Seen
seen_by_element (Number Ubyte) = look.Text
seen_by_element (Number _) = look.Numbers
seen_by_element _ = look.List

abbrev pub seen_by : Shape → Seen
seen_by Void = look.Nothing
seen_by (Number k) = look.Number
seen_by (Array n s) = seen_by_element s
seen_by (Cluster ss) = look.Cluster
seen_by Mutex = look.Mutex

abbrev pub seen : Sort → Seen
seen (Part s) = seen_by s
seen (Word n) = look.Word n
seen Absent = look.Absent
seen Unknown = look.Nothing
