-- Lists of bytes.
use Rattle.std.proofs.Common.{◌≡◌, ℕ, zero, suc, ◌+◌, ◌/◌, ◌<◌, List, ◌∷◌, map, drop, length, get_or, sym, ap, ap₂, ◌∙◌, subst, arith}
use Rattle.std.proofs.lemmas.List.{drop_more}
use Rattle.std.proofs.Math.ListN.{drop_of_length-le}
use Rattle.nxt_types.specs.Arithmetic.{extend}
use Rattle.nxt_types.specs.Shapes.{Shape, Array, Number}
use Rattle.nxt_types.specs.declared.kind.Kind.TheVariants.{Ubyte}
use Rattle.nxt_types.specs.declared.shape.TocEntry.{TocEntry}
use Rattle.nxt_model.specs.Means.Text.{number_in}
use Rattle.nxt_model.specs.Reading.{desc_of}
use Rattle.std.specs.Prelude.{slice_get}
use Rattle.nxt_model.specs.Values.{Num, list_of}
use Rattle.nxt_facts.specs.Places.{places_from}
use Rattle.nxt_heap.specs.Lists.{Lists, bytes_at}
use Rattle.nxt_values.specs.Fills.{RoomThere}
use Rattle.nxt_values.specs.Held.{row_in}
use Rattle.nxt_values.specs.Regions.{bytes_in, value_there}
use Rattle.nxt_space.specs.Variables.{list_of_bytes}
use Rattle.nxt_values.specs.declared.reading.Place.{Place}

-- the numbers that the bytes from the k-th on tell
pub bytes_read : (bytes : List ℕ) (n k : ℕ) → k + n ≡ length bytes → map (λ at. Num (number_in Ubyte (drop (at + 0) bytes))) (places_from k 1 n) ≡ map (λ b. Num (extend Ubyte b)) (drop k bytes)
bytes_read bytes zero k e = sym (ap (map (λ b. Num (extend Ubyte b))) (drop_of_length-le bytes (omega (arith, e))))
bytes_read bytes (suc n) k e =
    let b = get_or bytes k 0 in
    let less : k < length bytes = omega (arith, e) in
    let here : drop k bytes ≡ b ∷ drop (k + 1) bytes = drop_more bytes k 0 less in
    let none : k + 0 ≡ k = omega arith in
    ap₂
    (λ v vs. v ∷ vs)
    (ap (λ at. Num (number_in Ubyte (drop at bytes))) none ∙ ap (λ xs. Num (number_in Ubyte xs)) here)
    (bytes_read bytes n (k + 1) (omega (arith, e)))
    ∙ sym (ap (map (λ b. Num (extend Ubyte b))) here)

-- a list of bytes that has room for one byte each
pub list_bytes_read : (table : List TocEntry) (h : Lists) (whole : Shape) (at : Place) (row : ℕ) (bytes : List ℕ) → whole ≡ Array 1 (Number Ubyte) → RoomThere table h whole at → row ≡ row_in table at.entry (bytes_in h at.region) at.base → bytes ≡ bytes_at h row → value_there table h whole at ≡ list_of_bytes bytes
list_bytes_read table h whole at row bytes is room named held =
    let own = bytes_at h (row_in table at.entry (bytes_in h at.region) at.base) in
    let same : own ≡ bytes = sym (held ∙ ap (bytes_at h) named) in
    let fits = (subst (λ w. RoomThere table h w at) is room).fits.4 in
    let first : desc_of (slice_get table (at.entry + 1)) ≡ 0 = omega (arith, fits) in
    let all : length own / 1 ≡ length own = omega arith in
    ap (λ w. value_there table h w at) is
    ∙ ap
    list_of
    (ap (λ d. map (λ base. Num (number_in Ubyte (drop (base + d) own))) (places_from 0 1 (length own / 1))) first
    ∙ ap (λ n. map (λ base. Num (number_in Ubyte (drop (base + 0) own))) (places_from 0 1 n)) all
    ∙ bytes_read own (length own) 0 (omega arith))
    ∙ ap list_of_bytes same
