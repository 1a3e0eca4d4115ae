-- Each test is answered by what is seen.
use Rattle.std.proofs.Common.{◌≡◌, ℕ, Bool, true, false, ◌||◌, refl}
use Rattle.nxt_types.specs.Shapes.{Shape, Void, Number, Array, Cluster, Mutex, is_number, is_numbers}
use Rattle.nxt_types.specs.Calls.{is_text}
use Rattle.nxt_types.specs.OperandRules.{Sort, Part, Word, Absent, Unknown, is_absent, is_group, is_list, is_mutex, is_value, shape_of, word_of}
use Rattle.nxt_types.specs.declared.kind.Kind.TheVariants.{Ubyte}
use Rattle.nxt_operand_rules.specs.declared.seen.Seen.{Seen}
use Rattle.nxt_operand_rules.specs.declared.seen.Seen.TheVariants as look
use Rattle.nxt_operand_rules.specs.SeenOf.{seen}

abbrev pub number : Seen → Bool
number look.Number = true
number _ = false

pub number_seen : (o : Sort) → is_number (shape_of o) ≡ number (seen o)
number_seen (Part Void) = refl
number_seen (Part (Number k)) = refl
number_seen (Part (Array n Void)) = refl
number_seen (Part (Array n (Number Ubyte))) = refl
number_seen (Part (Array n (Number _))) = refl
number_seen (Part (Array n (Array m s))) = refl
number_seen (Part (Array n (Cluster ss))) = refl
number_seen (Part (Array n Mutex)) = refl
number_seen (Part (Cluster ss)) = refl
number_seen (Part Mutex) = refl
number_seen (Word n) = refl
number_seen Absent = refl
number_seen Unknown = refl

abbrev pub text : Seen → Bool
text look.Text = true
text _ = false

pub text_seen : (o : Sort) → is_text (shape_of o) ≡ text (seen o)
text_seen (Part Void) = refl
text_seen (Part (Number k)) = refl
text_seen (Part (Array n Void)) = refl
text_seen (Part (Array n (Number Ubyte))) = refl
text_seen (Part (Array n (Number _))) = refl
text_seen (Part (Array n (Array m s))) = refl
text_seen (Part (Array n (Cluster ss))) = refl
text_seen (Part (Array n Mutex)) = refl
text_seen (Part (Cluster ss)) = refl
text_seen (Part Mutex) = refl
text_seen (Word n) = refl
text_seen Absent = refl
text_seen Unknown = refl

abbrev pub numbers : Seen → Bool
numbers look.Text = true
numbers look.Numbers = true
numbers _ = false

pub numbers_seen : (o : Sort) → is_numbers (shape_of o) ≡ numbers (seen o)
numbers_seen (Part Void) = refl
numbers_seen (Part (Number k)) = refl
numbers_seen (Part (Array n Void)) = refl
numbers_seen (Part (Array n (Number Ubyte))) = refl
numbers_seen (Part (Array n (Number _))) = refl
numbers_seen (Part (Array n (Array m s))) = refl
numbers_seen (Part (Array n (Cluster ss))) = refl
numbers_seen (Part (Array n Mutex)) = refl
numbers_seen (Part (Cluster ss)) = refl
numbers_seen (Part Mutex) = refl
numbers_seen (Word n) = refl
numbers_seen Absent = refl
numbers_seen Unknown = refl

abbrev pub list : Seen → Bool
list look.Text = true
list look.Numbers = true
list look.List = true
list _ = false

pub list_seen : (o : Sort) → is_list (shape_of o) ≡ list (seen o)
list_seen (Part Void) = refl
list_seen (Part (Number k)) = refl
list_seen (Part (Array n Void)) = refl
list_seen (Part (Array n (Number Ubyte))) = refl
list_seen (Part (Array n (Number _))) = refl
list_seen (Part (Array n (Array m s))) = refl
list_seen (Part (Array n (Cluster ss))) = refl
list_seen (Part (Array n Mutex)) = refl
list_seen (Part (Cluster ss)) = refl
list_seen (Part Mutex) = refl
list_seen (Word n) = refl
list_seen Absent = refl
list_seen Unknown = refl

abbrev pub cluster : Seen → Bool
cluster look.Cluster = true
cluster _ = false

pub cluster_seen : (o : Sort) → is_group (shape_of o) ≡ cluster (seen o)
cluster_seen (Part Void) = refl
cluster_seen (Part (Number k)) = refl
cluster_seen (Part (Array n Void)) = refl
cluster_seen (Part (Array n (Number Ubyte))) = refl
cluster_seen (Part (Array n (Number _))) = refl
cluster_seen (Part (Array n (Array m s))) = refl
cluster_seen (Part (Array n (Cluster ss))) = refl
cluster_seen (Part (Array n Mutex)) = refl
cluster_seen (Part (Cluster ss)) = refl
cluster_seen (Part Mutex) = refl
cluster_seen (Word n) = refl
cluster_seen Absent = refl
cluster_seen Unknown = refl

abbrev pub mutex : Seen → Bool
mutex look.Mutex = true
mutex _ = false

pub mutex_seen : (o : Sort) → is_mutex (shape_of o) ≡ mutex (seen o)
mutex_seen (Part Void) = refl
mutex_seen (Part (Number k)) = refl
mutex_seen (Part (Array n Void)) = refl
mutex_seen (Part (Array n (Number Ubyte))) = refl
mutex_seen (Part (Array n (Number _))) = refl
mutex_seen (Part (Array n (Array m s))) = refl
mutex_seen (Part (Array n (Cluster ss))) = refl
mutex_seen (Part (Array n Mutex)) = refl
mutex_seen (Part (Cluster ss)) = refl
mutex_seen (Part Mutex) = refl
mutex_seen (Word n) = refl
mutex_seen Absent = refl
mutex_seen Unknown = refl

abbrev pub absent : Seen → Bool
absent look.Absent = true
absent _ = false

pub absent_seen : (o : Sort) → is_absent o ≡ absent (seen o)
absent_seen (Part Void) = refl
absent_seen (Part (Number k)) = refl
absent_seen (Part (Array n Void)) = refl
absent_seen (Part (Array n (Number Ubyte))) = refl
absent_seen (Part (Array n (Number _))) = refl
absent_seen (Part (Array n (Array m s))) = refl
absent_seen (Part (Array n (Cluster ss))) = refl
absent_seen (Part (Array n Mutex)) = refl
absent_seen (Part (Cluster ss)) = refl
absent_seen (Part Mutex) = refl
absent_seen (Word n) = refl
absent_seen Absent = refl
absent_seen Unknown = refl

abbrev pub word : Seen → ℕ
word (look.Word n) = n
word _ = 0

pub word_seen : (o : Sort) → word_of o ≡ word (seen o)
word_seen (Part Void) = refl
word_seen (Part (Number k)) = refl
word_seen (Part (Array n Void)) = refl
word_seen (Part (Array n (Number Ubyte))) = refl
word_seen (Part (Array n (Number _))) = refl
word_seen (Part (Array n (Array m s))) = refl
word_seen (Part (Array n (Cluster ss))) = refl
word_seen (Part (Array n Mutex)) = refl
word_seen (Part (Cluster ss)) = refl
word_seen (Part Mutex) = refl
word_seen (Word n) = refl
word_seen Absent = refl
word_seen Unknown = refl

pub value_seen : (s : Shape) → is_value s ≡ (is_number s || is_list s || is_group s)
value_seen Void = refl
value_seen (Number k) = refl
value_seen (Array n s) = refl
value_seen (Cluster ss) = refl
value_seen Mutex = refl
