-- Other values stay where one is stored in the place of another.
use Rattle.std.proofs.Common.{◌≡◌, ℕ, ◌+◌, List, take, drop, length, is_some, sym, ap, ◌∙◌, subst, arith}
use Rattle.nxt_types.specs.Shapes.{Shape}
use Rattle.nxt_types.specs.declared.shape.TocEntry.{TocEntry}
use Rattle.nxt_facts.proofs.Each.{Each, each_then, each_both}
use Rattle.nxt_heap.specs.Lists.{Lists, bytes_of, IsAlive}
use Rattle.nxt_values.specs.Held.{rows_at, Holds}
use Rattle.nxt_values.specs.Regions.{bytes_in, IsRegion}
use Rattle.nxt_model.specs.Spans.{Span, spans}
use Rattle.nxt_values.specs.Writes.{without, IsOther}
use Rattle.nxt_values.specs.Fills.{IsBeside, Grows}
use Rattle.nxt_values.specs.declared.reading.Region.{Region}
use Rattle.nxt_values.specs.declared.reading.Region.TheVariants.{Row}
use Rattle.nxt_facts.proofs.Pairs.{Across}
use Rattle.nxt_values.proofs.Hold.Frames.{IsSame, KeepsList, KeepLists, Stays, shape_stays, same_bytes}
use Rattle.nxt_values.proofs.Laws.HeldRows.{rows_alive}
use Rattle.nxt_values.proofs.Laws.Without.{Differ, other_kept, others_kept, region_kept}

-- lists that are neither freed nor the region's stay
pub lists_stay : (h g : Lists) (region : Region) (base : ℕ) (ps : List Span) (gone rows others : List ℕ) → Grows (without h gone) g region base ps rows → Each (IsAlive h) others → Across Differ gone others → Each (IsOther region) others → KeepLists h g others
lists_stay h g region base ps gone rows others e alive apart other =
    let f = without h gone in
    let first = others_kept h gone others apart in
    let living : Each (IsAlive f) others = each_both (IsAlive h) (KeepsList h f) (IsAlive f) (λ r a k. ap is_some k ∙ a) others alive first in
    let second : KeepLists f g others = each_both (IsAlive f) (IsOther region) (KeepsList f g) (λ r a o. e.kept r a o) others living other in
    each_both (KeepsList h f) (KeepsList f g) (KeepsList h g) (λ r a b. b ∙ a) others first second

-- a value in the same region, whose leaves are beside those of the place
pub beside_stays : (table : List TocEntry) (h g : Lists) (region : Region) (base : ℕ) (ps : List Span) (gone rows : List ℕ) (s : Shape) (i b : ℕ) → IsRegion h region → Each (IsOther region) gone → Grows (without h gone) g region base ps rows → Holds table h s i (bytes_in h region) b → Across Differ gone (rows_at table h s i (bytes_in h region) b) → Each (IsOther region) (rows_at table h s i (bytes_in h region) b) → Each (λ p. Each (IsBeside base b p) ps) (spans table s i) → Stays table h g s i (bytes_in h region) (bytes_in g region) b
beside_stays table h g region base ps gone rows s i b there other e holds apart others beside =
    let old = bytes_in h region in
    let had = rows_at table h s i old b in
    let kept = region_kept h gone region there other in
    shape_stays
    table
    h
    g
    s
    i
    old
    (bytes_in g region)
    b
    (each_then
    (λ p. Each (IsBeside base b p) ps)
    (IsSame old (bytes_in g region) b)
    (λ p all. e.beside p b all ∙ ap (λ bytes. take p.width (drop (b + p.place) bytes)) kept.bytes)
    (spans table s i)
    beside)
    (lists_stay h g region base ps gone rows had e (rows_alive table h s i old b holds) apart others)
    (omega (arith, e.long, ap length kept.bytes))

-- a value in the list of another row
pub elsewhere_stays : (table : List TocEntry) (h g : Lists) (region : Region) (base : ℕ) (ps : List Span) (gone rows : List ℕ) (row : ℕ) (s : Shape) (i b : ℕ) → Grows (without h gone) g region base ps rows → IsAlive h row → IsOther region row → Each (λ r. r ≡ row → ⊥) gone → Holds table h s i (bytes_in h (Row row)) b → Across Differ gone (rows_at table h s i (bytes_in h (Row row)) b) → Each (IsOther region) (rows_at table h s i (bytes_in h (Row row)) b) → Stays table h g s i (bytes_in h (Row row)) (bytes_in g (Row row)) b
elsewhere_stays table h g region base ps gone rows row s i b e alive other free holds apart others =
    let old = bytes_in h (Row row) in
    let had = rows_at table h s i old b in
    let first = other_kept h gone row free in
    let same : bytes_in g (Row row) ≡ old = ap bytes_of (e.kept row (ap is_some first ∙ alive) other ∙ first) in
    subst
    (λ bytes. Stays table h g s i old bytes b)
    (sym same)
    (shape_stays
    table
    h
    g
    s
    i
    old
    old
    b
    (same_bytes old b (spans table s i))
    (lists_stay h g region base ps gone rows had e (rows_alive table h s i old b holds) apart others)
    (omega arith))
