-- Values with constants behind them: they are read, and values are stored in front of them.
use Rattle.std.proofs.Common.{◌≡◌, ℕ, zero, suc, ◌+◌, ◌<◌, List, [], ◌∷◌, ◌++◌, map, length, get_or, set, refl, sym, ap, ap₂, subst, ◌∙◌, arith}
use Rattle.std.specs.Prelude.{⊤, pos, slice_index_or}
use Rattle.std.proofs.lemmas.List.{get_or-append-add, get_or_append_left, length-set, set-append_left}
use Rattle.nxt_facts.proofs.Each.{Each}
use Rattle.nxt_model.specs.Dump.{Written, shape_under, written_by, written_under}
use Rattle.nxt_model.specs.Means.Effects.{Given, Store}
use Rattle.nxt_model.specs.Values.{Value, Num, elements, group_of, part, with_part}
use Rattle.nxt_model.specs.Variables.{Reference, PartOf, Constant, Plain, Target, Absent, put, put_all, read}
use Rattle.nxt_model.proofs.Laws.Values.{items-values}

-- the part of one of the first n values
abbrev pub StartsBelow : ℕ → List ℕ → Type 0
StartsBelow n [] = ⊥
StartsBelow n (k ∷ ks) = k < n

-- no constant
abbrev pub IsPlace : Reference → Type 0
IsPlace (Constant s v) = ⊥
IsPlace _ = ⊤

-- and so is a part of that part
starts_under : (n : ℕ) (ks path : List ℕ) → StartsBelow n ks → StartsBelow n (ks ++ path)
starts_under n [] path lt = absurd lt
starts_under n (k ∷ ks) path lt = lt

-- what stands for a value that isn't there
abbrev pub zero_value : Value
zero_value = Num (pos 0)

module _ (n : ℕ) (cs : List Value) where
  -- values with the constants behind them
  abbrev pub more : Value → Value
  more v = group_of (elements v ++ cs)

  -- n values
  abbrev pub IsWhole : Value → Type 0
  IsWhole v = (vs : List Value) × (v ≡ group_of vs) × (length vs ≡ n)

  -- the second reference reads with the constants what the first one reads without them
  abbrev pub Agrees : Reference → Reference → Type 0
  Agrees (PartOf x) r = (r ≡ PartOf x) × StartsBelow n x.path
  Agrees (Constant s v) r = (k : ℕ) × (r ≡ PartOf (record { path = (n + k) ∷ []; shape = s })) × (get_or cs k zero_value ≡ v)
  Agrees (Plain m) r = r ≡ Plain m
  Agrees Target r = r ≡ Target
  Agrees Absent r = r ≡ Absent

  abbrev pub AgreeAll : List Reference → List Reference → Type 0
  AgreeAll [] [] = ⊤
  AgreeAll (i ∷ is) (j ∷ js) = Agrees i j × AgreeAll is js
  AgreeAll _ _ = ⊥

  -- ---- parts

  pub more_group : (vs : List Value) → more (group_of vs) ≡ group_of (vs ++ cs)
  more_group vs = ap (λ ws. group_of (ws ++ cs)) (items-values vs)

  part_group : (vs : List Value) (k : ℕ) (ks : List ℕ) → part (k ∷ ks) (group_of vs) ≡ part ks (get_or vs k zero_value)
  part_group vs k ks = ap (λ ws. part ks (get_or ws k zero_value)) (items-values vs)

  part_front : (vs : List Value) (path : List ℕ) → length vs ≡ n → StartsBelow n path → part path (group_of (vs ++ cs)) ≡ part path (group_of vs)
  part_front vs [] many lt = absurd lt
  part_front vs (k ∷ ks) many lt =
      part_group (vs ++ cs) k ks ∙ ap (part ks) (get_or_append_left vs cs zero_value k (omega (arith, many, lt))) ∙ sym (part_group vs k ks)

  part_back : (vs : List Value) (k : ℕ) → length vs ≡ n → part ((n + k) ∷ []) (group_of (vs ++ cs)) ≡ get_or cs k zero_value
  part_back vs k many =
      part_group (vs ++ cs) (n + k) [] ∙ ap (λ m. get_or (vs ++ cs) (m + k) zero_value) (sym many) ∙ get_or-append-add vs cs k zero_value

  set_group : (vs : List Value) (k : ℕ) (ks : List ℕ) (w : Value) → with_part (k ∷ ks) w (group_of vs) ≡ group_of (set vs k (with_part ks w (get_or vs k zero_value)))
  set_group vs k ks w = ap (λ ws. group_of (set ws k (with_part ks w (get_or ws k zero_value)))) (items-values vs)

  set_front : (vs : List Value) (path : List ℕ) (w : Value) → length vs ≡ n → StartsBelow n path
      → (with_part path w (group_of (vs ++ cs)) ≡ more (with_part path w (group_of vs))) × IsWhole (with_part path w (group_of vs))
  set_front vs [] w many lt = absurd lt
  set_front vs (k ∷ ks) w many lt =
      let under : k < length vs = omega (arith, many, lt) in
      let new : Value = with_part ks w (get_or vs k zero_value) in (
        set_group (vs ++ cs) k ks w
            ∙ ap (λ x. group_of (set (vs ++ cs) k (with_part ks w x))) (get_or_append_left vs cs zero_value k under)
            ∙ ap group_of (set-append_left vs cs k new under)
            ∙ sym (more_group (set vs k new))
            ∙ ap more (sym (set_group vs k ks w)),
        (set vs k new, set_group vs k ks w, length-set vs k new ∙ many),
      )

  -- ---- references

  read_group : (i j : Reference) (vs : List Value) → Agrees i j → length vs ≡ n → read (group_of (vs ++ cs)) j ≡ read (group_of vs) i
  read_group (PartOf x) j vs h many = ap (read (group_of (vs ++ cs))) h.0 ∙ ap (Given x.shape) (part_front vs x.path many h.1)
  read_group (Constant s v) j vs h many = ap (read (group_of (vs ++ cs))) h.1 ∙ ap (Given s) (part_back vs h.0 many ∙ h.2)
  read_group (Plain m) j vs h many = ap (read (group_of (vs ++ cs))) h
  read_group Target j vs h many = ap (read (group_of (vs ++ cs))) h
  read_group Absent j vs h many = ap (read (group_of (vs ++ cs))) h

  -- each is read alike
  read_same : (i j : Reference) (v : Value) → Agrees i j → IsWhole v → read (more v) j ≡ read v i
  read_same i j v h whole =
      subst (λ u. read (more u) j ≡ read u i) (sym whole.1) (ap (λ u. read u j) (more_group whole.0) ∙ read_group i j whole.0 h whole.2)

  pub reads_same : (is js : List Reference) (v : Value) → AgreeAll is js → IsWhole v → map (read (more v)) js ≡ map (read v) is
  reads_same [] [] v h whole = refl
  reads_same (i ∷ is) (j ∷ js) v h whole =
      ap (λ o. o ∷ map (read (more v)) js) (read_same i j v h.0 whole) ∙ ap (λ os. read v i ∷ os) (reads_same is js v h.1 whole)
  reads_same [] (j ∷ js) v h whole = absurd h
  reads_same (i ∷ is) [] v h whole = absurd h

  put_group : (i j : Reference) (path : List ℕ) (w : Value) (vs : List Value) → Agrees i j → IsPlace i → length vs ≡ n
      → (put j path w (group_of (vs ++ cs)) ≡ more (put i path w (group_of vs))) × IsWhole (put i path w (group_of vs))
  put_group (PartOf x) j path w vs h place many =
      let both = set_front vs (x.path ++ path) w many (starts_under n x.path path h.1) in (ap (λ r. put r path w (group_of (vs ++ cs))) h.0 ∙ both.0, both.1)
  put_group (Constant s v) j path w vs h place many = absurd place
  put_group (Plain m) j path w vs h place many = (ap (λ r. put r path w (group_of (vs ++ cs))) h ∙ sym (more_group vs), (vs, refl, many))
  put_group Target j path w vs h place many = (ap (λ r. put r path w (group_of (vs ++ cs))) h ∙ sym (more_group vs), (vs, refl, many))
  put_group Absent j path w vs h place many = (ap (λ r. put r path w (group_of (vs ++ cs))) h ∙ sym (more_group vs), (vs, refl, many))

  put_same : (i j : Reference) (path : List ℕ) (w v : Value) → Agrees i j → IsPlace i → IsWhole v → (put j path w (more v) ≡ more (put i path w v)) × IsWhole (put i path w v)
  put_same i j path w v h place whole =
      subst (λ u. (put j path w (more u) ≡ more (put i path w u)) × IsWhole (put i path w u)) (sym whole.1)
      (let both = put_group i j path w whole.0 h place whole.2 in (ap (put j path w) (more_group whole.0) ∙ both.0, both.1))

  agrees_at : (is js : List Reference) (k : ℕ) → AgreeAll is js → Agrees (slice_index_or is k Absent) (slice_index_or js k Absent)
  agrees_at [] [] k h = refl
  agrees_at (i ∷ is) (j ∷ js) zero h = h.0
  agrees_at (i ∷ is) (j ∷ js) (suc k) h = agrees_at is js k h.1
  agrees_at [] (j ∷ js) k h = absurd h
  agrees_at (i ∷ is) [] k h = absurd h

  -- stores go to the same places
  pub puts_same : (is js : List Reference) (ss : List Store) (v : Value) → AgreeAll is js → Each (λ (s : Store). IsPlace (slice_index_or is s.operand Absent)) ss → IsWhole v
      → (put_all js ss (more v) ≡ more (put_all is ss v)) × IsWhole (put_all is ss v)
  puts_same is js [] v h places whole = (refl, whole)
  puts_same is js (s ∷ ss) v h places whole =
      let i : Reference = slice_index_or is s.operand Absent in
      let j : Reference = slice_index_or js s.operand Absent in
      let one = put_same i j s.path s.value v (agrees_at is js s.operand h) places.0 whole in
      let rest = puts_same is js ss (put i s.path s.value v) h places.1 one.1 in
      (ap (put_all js ss) one.0 ∙ rest.0, rest.1)

  -- ---- written parts

  part_same : (path : List ℕ) (v : Value) → StartsBelow n path → IsWhole v → part path (more v) ≡ part path v
  part_same path v lt whole =
      subst (λ u. part path (more u) ≡ part path u) (sym whole.1) (ap (part path) (more_group whole.0) ∙ part_front whole.0 path whole.2 lt)

  under_same : (i j : Reference) (path : List ℕ) (v w : Value) → Agrees i j → IsPlace i → IsWhole v → IsWhole w → written_under j path (more v) (more w) ≡ written_under i path v w
  under_same (PartOf x) j path v w h place whole after =
      let own : List ℕ = x.path ++ path in
      let below : StartsBelow n own = starts_under n x.path path h.1 in
      let one : Value → Value → List Written = λ b a. record { shape = shape_under x.shape path; before = b; after = a } ∷ [] in
      ap (λ r. written_under r path (more v) (more w)) h.0
      ∙ ap (λ b. one b (part own (more w))) (part_same own v below whole)
      ∙ ap (λ a. one (part own v) a) (part_same own w below after)
  under_same (Constant s c) j path v w h place whole after = absurd place
  under_same (Plain m) j path v w h place whole after = ap (λ r. written_under r path (more v) (more w)) h
  under_same Target j path v w h place whole after = ap (λ r. written_under r path (more v) (more w)) h
  under_same Absent j path v w h place whole after = ap (λ r. written_under r path (more v) (more w)) h

  -- stores write the same parts
  pub writes_same : (is js : List Reference) (ss : List Store) (v w : Value) → AgreeAll is js → Each (λ (s : Store). IsPlace (slice_index_or is s.operand Absent)) ss → IsWhole v → IsWhole w
      → written_by js (more v) (more w) ss ≡ written_by is v w ss
  writes_same is js [] v w h places whole after = refl
  writes_same is js (s ∷ ss) v w h places whole after =
      ap₂ (λ (xs ys : List Written). xs ++ ys)
      (under_same (slice_index_or is s.operand Absent) (slice_index_or js s.operand Absent) s.path v w (agrees_at is js s.operand h) places.0 whole after)
      (writes_same is js ss v w h places.1 whole after)
