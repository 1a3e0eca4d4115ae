-- The lists that a pool reads as: their lengths and strides.
use Rattle.std.proofs.Common.{◌≡◌, ℕ, zero, suc, ◌+◌, ◌*◌, ◌≤◌, List, [], ◌∷◌, ◌++◌, map, flat_map, length, sym, ap, ap₂, ◌∙◌, subst}
use Rattle.std.proofs.lemmas.List.{map-append}
use Rattle.nxt_facts.proofs.Each.{Each, each_join}
use Rattle.nxt_types.specs.Bytes.{u16_at}
use Rattle.nxt_types.specs.Names.{size}
use Rattle.nxt_types.specs.Pool.{round4}
use Rattle.nxt_types.specs.Shapes.{Shape, Void, Number, Array, Cluster, Mutex, Members, no_members, member}
use Rattle.nxt_model.specs.Values.{Value, elements}
use Rattle.nxt_model.specs.Spans.{FitsIn, FitAll}
use Rattle.nxt_model.specs.Reading.{Memory, HeldList, EachReads, RowReads, Reads, MembersRead, leaf_place}
use Rattle.nxt_dumps.specs.Lengths.{lengths_in, lengths_among}

abbrev pub bytes_of : HeldList → ℕ
bytes_of l = round4 (l.count * l.stride)

abbrev Lengths : (ℕ → Value → List HeldList → Type 0) → (Value → List ℕ) → Type 0
Lengths reads lengths = (place : ℕ) (v : Value) (ls : List HeldList) → reads place v ls → map bytes_of ls ≡ lengths v

two : (a b ls : List HeldList) (ms ns : List ℕ) → ls ≡ a ++ b → map bytes_of a ≡ ms → map bytes_of b ≡ ns → map bytes_of ls ≡ ms ++ ns
two a b ls ms ns e f g = ap (map bytes_of) e ∙ map-append bytes_of a b ∙ ap₂ (λ xs ys. xs ++ ys) f g

each_lengths : (reads : ℕ → Value → List HeldList → Type 0) (lengths : Value → List ℕ) → Lengths reads lengths → (place stride : ℕ) (vs : List Value) (ls : List HeldList) → EachReads reads place stride vs ls → map bytes_of ls ≡ flat_map lengths vs
each_lengths reads lengths h place stride [] ls e = ap (map bytes_of) e
each_lengths reads lengths h place stride (v ∷ vs) ls e =
    two e.0 e.1 ls (lengths v) (flat_map lengths vs) e.2 (h place v e.0 e.3) (each_lengths reads lengths h (place + stride) stride vs e.1 e.4)

row_lengths : (m : Memory) (reads : ℕ → Value → List HeldList → Type 0) (lengths : Value → List ℕ) → Lengths reads lengths → (stride r : ℕ) (vs : List Value) (ls : List HeldList) → RowReads m reads stride r vs ls → map bytes_of ls ≡ round4 (length vs * stride) ∷ flat_map lengths vs
row_lengths m reads lengths h stride zero vs ls e = ap (map bytes_of) e.1 ∙ ap (λ ws. round4 (length ws * stride) ∷ flat_map lengths ws) (sym e.0)
row_lengths m reads lengths h stride (suc r) vs ls e =
    ap (map bytes_of) e.1 ∙ ap (λ ns. round4 (length vs * stride) ∷ ns) (each_lengths reads lengths h _ _ vs e.0 e.4)

mutual
  read_lengths : (m : Memory) (i : ℕ) (s : Shape) → Lengths (Reads m i s) (lengths_in s)
  read_lengths m i Void base v ls e = ap (map bytes_of) e.1
  read_lengths m i (Number k) base v ls e = ap (map bytes_of) e.2
  read_lengths m i (Array stride s) base v ls e =
      row_lengths m (Reads m (i + 1) s) (lengths_in s) (read_lengths m (i + 1) s) stride (u16_at m.bytes (leaf_place m i base)) (elements v) ls e.2
  read_lengths m i (Cluster ss) base v ls e = members_lengths m (i + 1) ss base (elements v) ls e.1
  read_lengths m i Mutex base v ls e = ap (map bytes_of) e.1

  -- the lists have the lengths of those in the values
  pub members_lengths : (m : Memory) (i : ℕ) (ss : Members) (base : ℕ) (vs : List Value) (ls : List HeldList) → MembersRead m i ss base vs ls → map bytes_of ls ≡ lengths_among ss vs
  members_lengths m i no_members base vs ls e = ap (map bytes_of) e.1
  members_lengths m i (member s ss) base [] ls e = absurd e
  members_lengths m i (member s ss) base (v ∷ vs) ls e =
      two e.0 e.1 ls (lengths_in s v) (lengths_among ss vs) e.2 (read_lengths m i s base v e.0 e.3) (members_lengths m (i + size s) ss base vs e.1 e.4)

-- ---- strides

abbrev pub HasStride : HeldList → Type 0
HasStride l = 1 ≤ l.stride

abbrev Strides : (ℕ → Value → List HeldList → Type 0) → Type 0
Strides reads = (place : ℕ) (v : Value) (ls : List HeldList) → reads place v ls → Each HasStride ls

joined : (a b ls : List HeldList) → ls ≡ a ++ b → Each HasStride a → Each HasStride b → Each HasStride ls
joined a b ls e f g = subst (Each HasStride) (sym e) (each_join HasStride a b f g)

each_strides : (reads : ℕ → Value → List HeldList → Type 0) → Strides reads → (place stride : ℕ) (vs : List Value) (ls : List HeldList) → EachReads reads place stride vs ls → Each HasStride ls
each_strides reads h place stride [] ls e = subst (Each HasStride) (sym e) tt
each_strides reads h place stride (v ∷ vs) ls e = joined e.0 e.1 ls e.2 (h place v e.0 e.3) (each_strides reads h (place + stride) stride vs e.1 e.4)

row_strides : (m : Memory) (reads : ℕ → Value → List HeldList → Type 0) → Strides reads → (stride r : ℕ) → 1 ≤ stride → (vs : List Value) (ls : List HeldList) → RowReads m reads stride r vs ls → Each HasStride ls
row_strides m reads h stride zero some vs ls e = subst (Each HasStride) (sym e.1) (some, tt)
row_strides m reads h stride (suc r) some vs ls e = subst (Each HasStride) (sym e.1) (some, each_strides reads h _ _ vs e.0 e.4)

mutual
  read_strides : (m : Memory) (i : ℕ) (s : Shape) (room : ℕ) → FitsIn m.entries s i room → Strides (Reads m i s)
  read_strides m i Void room f base v ls e = subst (Each HasStride) (sym e.1) tt
  read_strides m i (Number k) room f base v ls e = subst (Each HasStride) (sym e.2) tt
  read_strides m i (Array stride s) room f base v ls e =
      row_strides m (Reads m (i + 1) s) (read_strides m (i + 1) s stride f.4) stride (u16_at m.bytes (leaf_place m i base)) f.1 (elements v) ls e.2
  read_strides m i (Cluster ss) room f base v ls e = members_strides m (i + 1) ss room f base (elements v) ls e.1
  read_strides m i Mutex room f base v ls e = subst (Each HasStride) (sym e.1) tt

  -- where the leaves have spans, each list has a stride
  pub members_strides : (m : Memory) (i : ℕ) (ss : Members) (room : ℕ) → FitAll m.entries ss i room → (base : ℕ) (vs : List Value) (ls : List HeldList) → MembersRead m i ss base vs ls → Each HasStride ls
  members_strides m i no_members room f base vs ls e = subst (Each HasStride) (sym e.1) tt
  members_strides m i (member s ss) room f base [] ls e = absurd e
  members_strides m i (member s ss) room f base (v ∷ vs) ls e =
      joined e.0 e.1 ls e.2 (read_strides m i s room f.0 base v e.0 e.3) (members_strides m (i + size s) ss room f.1 base vs e.1 e.4)
