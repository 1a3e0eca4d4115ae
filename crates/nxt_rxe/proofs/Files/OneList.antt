-- A file has at most one list of parts.
use Rattle.std.proofs.Common.{◌≡◌, ℕ, ◌%◌, ◌^◌, ◌<◌, List, [], ◌∷◌, ◌++◌, length, get_or, take, drop, refl, sym, ap, ap₂, ◌∙◌, append_assoc, arith, take_at, drop_at, w16}
use Rattle.std.specs.Prelude.{All, flat_map}
use Rattle.std.specs.Int.{from_le_bytes}
use Rattle.std.proofs.lemmas.Nat.{from_le_bytes-to_le_bytes_2}
use Rattle.std.proofs.lemmas.List.{length-append}
use Rattle.std.proofs.lemmas.List.Elements.{All-head, All-tail}
use Rattle.nxt_types.specs.declared.shape.TocEntry.{TocEntry}
use Rattle.nxt_types.specs.declared.lists.ClumpRec.{ClumpRec}
use Rattle.nxt_rxe.specs.declared.parts.Header.{Header}
use Rattle.nxt_rxe.specs.declared.parts.Parts.{Parts}
use Rattle.nxt_rxe.specs.Files.{two_bytes, numbers, head_bytes, entry_bytes, clump_bytes, EntryFits, ClumpFits, front_bytes, middle_bytes, code_bytes, dependent_count, IsFile}

-- ---- lists

same_front : {A : Type 0} (a b x y : List A) → length a ≡ length b → a ++ x ≡ b ++ y → (a ≡ b) × (x ≡ y)
same_front a b x y len e = (
  sym (take_at a x (length b) len) ∙ ap (λ l. take (length b) l) e ∙ take_at b y (length b) refl,
  sym (drop_at a x (length b) len) ∙ ap (λ l. drop (length b) l) e ∙ drop_at b y (length b) refl,
)

pub six : (a b c d e f : List ℕ) → a ++ b ++ c ++ d ++ e ++ f ≡ a ++ (b ++ (c ++ (d ++ (e ++ f))))
six a b c d e f = simp append_assoc refl

pub three : (a b c r : List ℕ) → (a ++ b ++ c) ++ r ≡ a ++ (b ++ (c ++ r))
three a b c r = simp append_assoc refl

two : (a b r : List ℕ) → (a ++ b) ++ r ≡ a ++ (b ++ r)
two a b r = append_assoc a b r

-- what follows the first of three parts, and the first of two
of_three : (a b c r a' b' c' r' : List ℕ) → length a ≡ length a' → (a ++ b ++ c) ++ r ≡ (a' ++ b' ++ c') ++ r' → (a ≡ a') × (b ++ (c ++ r) ≡ b' ++ (c' ++ r'))
of_three a b c r a' b' c' r' len e = same_front a a' (b ++ (c ++ r)) (b' ++ (c' ++ r')) len (sym (three a b c r) ∙ e ∙ three a' b' c' r')

of_two : (a b r a' b' r' : List ℕ) → length a ≡ length a' → (a ++ b) ++ r ≡ (a' ++ b') ++ r' → (a ≡ a') × (b ++ r ≡ b' ++ r')
of_two a b r a' b' r' len e = same_front a a' (b ++ r) (b' ++ r') len (sym (two a b r) ∙ e ∙ two a' b' r')

-- the spelling of one element tells the element, and all spellings are as long
record IsCode {A : Type 0} (P : A → Type 0) (f : A → List ℕ) (n : ℕ) : Type 0 where
  len : (x : A) → length (f x) ≡ n
  one : (x y : A) → P x → P y → f x ≡ f y → x ≡ y

same_elements : {A : Type 0} (P : A → Type 0) (f : A → List ℕ) (n : ℕ) → IsCode P f n → (xs ys : List A) → length xs ≡ length ys → All P xs → All P ys
    → flat_map f xs ≡ flat_map f ys → xs ≡ ys
same_elements P f n code [] [] len p q e = refl
same_elements P f n code [] (y ∷ ys) len p q e = absurd (omega (arith, len))
same_elements P f n code (x ∷ xs) [] len p q e = absurd (omega (arith, len))
same_elements P f n code (x ∷ xs) (y ∷ ys) len p q e =
    let parts = same_front (f x) (f y) (flat_map f xs) (flat_map f ys) (code.len x ∙ sym (code.len y)) e in
    let first = code.one x y (All-head P x xs p) (All-head P y ys q) parts.0 in
    let rest = same_elements P f n code xs ys (omega (arith, len)) (All-tail P x xs p) (All-tail P y ys q) parts.1 in
    ap₂ (λ a as'. a ∷ as') first rest

same_length : {A : Type 0} (f : A → List ℕ) (n : ℕ) → ((x : A) → length (f x) ≡ n) → (xs ys : List A) → length xs ≡ length ys → length (flat_map f xs) ≡ length (flat_map f ys)
same_length f n len [] [] e = refl
same_length f n len [] (y ∷ ys) e = absurd (omega (arith, e))
same_length f n len (x ∷ xs) [] e = absurd (omega (arith, e))
same_length f n len (x ∷ xs) (y ∷ ys) e =
    let rest = same_length f n len xs ys (omega (arith, e)) in
    omega (arith, length-append (f x) (flat_map f xs), length-append (f y) (flat_map f ys), len x, len y, rest)

-- ---- numbers and records

same_word : (m n : ℕ) → m < 2 ^ 16 → n < 2 ^ 16 → two_bytes m ≡ two_bytes n → m ≡ n
same_word m n p q e = sym (from_le_bytes-to_le_bytes_2 m p) ∙ ap (λ l. from_le_bytes w16 l) e ∙ from_le_bytes-to_le_bytes_2 n q

words : IsCode (λ w. w < 2 ^ 16) two_bytes 2
words = record { len = λ x. refl; one = same_word }

same_entry : (x y : TocEntry) → EntryFits x → EntryFits y → entry_bytes x ≡ entry_bytes y → x ≡ y
same_entry x y p q e =
    let code : x.code ≡ y.code = ap (λ l. get_or l 0 0) e in
    let flags : x.flags ≡ y.flags = ap (λ l. get_or l 1 0) e in
    let desc = same_word x.desc y.desc p.2 q.2 (ap (λ l. drop 2 l) e) in
    λ i. record { code = code i; flags = flags i; desc = desc i }

entries : IsCode EntryFits entry_bytes 4
entries = record { len = λ x. refl; one = same_entry }

same_clump : (x y : ClumpRec) → ClumpFits x → ClumpFits y → clump_bytes x ≡ clump_bytes y → x ≡ y
same_clump x y p q e =
    let fire : x.fire ≡ y.fire = ap (λ l. get_or l 0 0) e in
    let dependents : x.dependents ≡ y.dependents = ap (λ l. get_or l 1 0) e in
    let start = same_word x.start y.start p.2 q.2 (ap (λ l. drop 2 l) e) in
    λ i. record { fire = fire i; dependents = dependents i; start = start i }

clumps : IsCode ClumpFits clump_bytes 4
clumps = record { len = λ x. refl; one = same_clump }

abbrev header_of : List ℕ → Header
header_of ns =
    record {
      toc_count = get_or ns 0 0;
      initial = get_or ns 1 0;
      static_size = get_or ns 2 0;
      default_size = get_or ns 3 0;
      dyn_at = get_or ns 4 0;
      dyn_size = get_or ns 5 0;
      head = get_or ns 6 0;
      tail = get_or ns 7 0;
      dope_at = get_or ns 8 0;
      clump_count = get_or ns 9 0;
      word_count = get_or ns 10 0;
    }

same_header : (h k : Header) → All (λ n. n < 2 ^ 16) (numbers h) → All (λ n. n < 2 ^ 16) (numbers k) → head_bytes h ≡ head_bytes k → h ≡ k
same_header h k p q e =
    ap header_of (same_elements (λ n. n < 2 ^ 16) two_bytes 2 words (numbers h) (numbers k) refl p q (ap (λ l. drop 16 l) e))

-- ---- files

-- what follows the front, and what follows the middle
abbrev pub after_front : {bytes : List ℕ} {p : Parts} → IsFile bytes p → List ℕ
after_front {bytes} {p} f = f.first_pad ++ (middle_bytes p ++ (f.second_pad ++ (code_bytes p ++ f.rest)))

abbrev pub after_middle : {bytes : List ℕ} {p : Parts} → IsFile bytes p → List ℕ
after_middle {bytes} {p} f = f.second_pad ++ (code_bytes p ++ f.rest)

pub whole_is : (bytes : List ℕ) (p : Parts) (f : IsFile bytes p) → bytes ≡ front_bytes p ++ after_front f
whole_is bytes p f = f.whole ∙ six (front_bytes p) f.first_pad (middle_bytes p) f.second_pad (code_bytes p) f.rest

pub at_most_one : (bytes : List ℕ) (p q : Parts) → IsFile bytes p → IsFile bytes q → p ≡ q
at_most_one bytes p q f g =
    let whole = sym (whole_is bytes p f) ∙ whole_is bytes q g in
    let at_head = of_three (head_bytes p.header) (flat_map entry_bytes p.toc) p.defaults (after_front f) (head_bytes q.header) (flat_map entry_bytes q.toc) q.defaults (after_front g) refl whole in
    let header = same_header p.header q.header f.fits.header g.fits.header at_head.0 in
    let toc_len : length p.toc ≡ length q.toc = f.counts.toc ∙ ap (λ (h : Header). h.toc_count) header ∙ sym g.counts.toc in
    let at_toc = same_front (flat_map entry_bytes p.toc) (flat_map entry_bytes q.toc) (p.defaults ++ after_front f) (q.defaults ++ after_front g)
    (same_length entry_bytes 4 entries.len p.toc q.toc toc_len) at_head.1 in
    let toc = same_elements EntryFits entry_bytes 4 entries p.toc q.toc toc_len f.fits.toc g.fits.toc at_toc.0 in
    let at_defaults = same_front p.defaults q.defaults (after_front f) (after_front g)
    (f.counts.defaults ∙ ap (λ (h : Header). h.default_size) header ∙ sym g.counts.defaults) at_toc.1 in
    let fronts : front_bytes p ≡ front_bytes q = λ i. head_bytes (header i) ++ flat_map entry_bytes (toc i) ++ at_defaults.0 i in
    let at_pad = same_front f.first_pad g.first_pad (middle_bytes p ++ after_middle f) (middle_bytes q ++ after_middle g)
    (f.first ∙ ap (λ l. length l % 2) fronts ∙ sym g.first) at_defaults.1 in
    let clumps_len : length p.clumps ≡ length q.clumps = f.counts.clumps ∙ ap (λ (h : Header). h.clump_count) header ∙ sym g.counts.clumps in
    let at_clumps = of_two (flat_map clump_bytes p.clumps) p.dependents (after_middle f) (flat_map clump_bytes q.clumps) q.dependents (after_middle g)
    (same_length clump_bytes 4 clumps.len p.clumps q.clumps clumps_len) at_pad.1 in
    let recs = same_elements ClumpFits clump_bytes 4 clumps p.clumps q.clumps clumps_len f.fits.clumps g.fits.clumps at_clumps.0 in
    let at_dependents = same_front p.dependents q.dependents (after_middle f) (after_middle g)
    (f.counts.dependents ∙ ap (λ cs. dependent_count cs) recs ∙ sym g.counts.dependents) at_clumps.1 in
    let middles : middle_bytes p ≡ middle_bytes q = λ i. flat_map clump_bytes (recs i) ++ at_dependents.0 i in
    let at_second = same_front f.second_pad g.second_pad (code_bytes p ++ f.rest) (code_bytes q ++ g.rest)
    (f.second ∙ ap (λ l. length l % 2) middles ∙ sym g.second) at_dependents.1 in
    let code_len : length p.code ≡ length q.code = f.counts.code ∙ ap (λ (h : Header). h.word_count) header ∙ sym g.counts.code in
    let at_code = same_front (code_bytes p) (code_bytes q) f.rest g.rest (same_length two_bytes 2 words.len p.code q.code code_len) at_second.1 in
    let code = same_elements (λ w. w < 2 ^ 16) two_bytes 2 words p.code q.code code_len f.fits.code g.fits.code at_code.0 in
    λ i. record { header = header i; toc = toc i; defaults = at_defaults.0 i; clumps = recs i; dependents = at_dependents.0 i; code = code i }
