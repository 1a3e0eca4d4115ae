-- The first list's words are as many as the shorter list has.
use Rattle.std.proofs.Common.{ℕ, ◌≡◌, ◌∙◌, length, map, zip, take, drop, pos, sym, ap, ap₂, arith, length-take}
use Rattle.std.proofs.lemmas.List.{length-map, take_at}
use Rattle.std.proofs.lemmas.Slice.Zip.{length-zip}
use Rattle.nxt_types.specs.Arithmetic.{word}
use Rattle.nxt_model.specs.Values.{elements, number}
use Rattle.nxt_space.specs.Spots.{numbers_in_bytes}
use Rattle.nxt_ops.specs.Ops.{word_of_two}
use Rattle.nxt_ops.specs.Passes.{words_of, two_words}
use Rattle.nxt_ops.proofs.ByWords.{zip_cut}
use Rattle.nxt_ops.proofs.in_place.words_of_lists.Goals as goal

pub combine_numbers-requires : goal.combine_numbers-requires
combine_numbers-requires c =
    let xs = c.in_ok-words.words.items in
    let n = c.count_in.result in
    omega (
      arith,
      ap length c.deref_mut.ensures.value,
      ap length c.truncate.ensures.items,
      length-take n xs,
      c.count_in.ensures.count ∙ ap (λ k. length (elements (numbers_in_bytes k c.bytes-bytes.result.now))) (c.kind-2.ensures ∙ sym c.kind-3.ensures),
    )

pub returns-clause-words : goal.returns-clause-words
returns-clause-words c i j mine theirs =
    let xs = c.in_ok-words.words.items in
    let numbers = numbers_in_bytes c.kind-3.result c.bytes-bytes.result.now in
    let ys = words_of numbers in
    let t = c.truncate.new.self.items in
    let new = c.combine_numbers.new.xs in
    let op = two_words c.args.operator c.args.signed in
    let f = λ (p : ℕ × ℕ). word_of_two c.args.operator c.args.signed (pos p.0) (pos p.1) in
    let counted : c.count_in.result ≡ length ys =
    c.count_in.ensures.count ∙ ap (λ k. length (elements (numbers_in_bytes k c.bytes-bytes.result.now))) (c.kind-2.ensures ∙ sym c.kind-3.ensures) ∙ sym (length-map (elements numbers) (λ u. word (number u))) in
    let cut : t ≡ take (length ys) xs = c.truncate.ensures.items ∙ ap (λ n. take n xs) counted in
    let combined : new ≡ op t ys = c.in_ok-combine_numbers.ensures ∙ ap (λ us. op us ys) c.deref_mut.ensures.value in
    let long : length new ≡ c.truncate.new.self.len =
    omega (
      arith,
      ap length combined,
      length-map (zip t ys) f,
      length-zip t ys,
      ap length cut,
      length-take (length ys) xs,
      ap length c.deref_mut.ensures.value,
      c.deref_mut.ensures.len,
    ) in
    let first = c.in_ok-words.ensures.words ∙ ap (λ k. words_of (numbers_in_bytes k c.bytes.result.now)) c.kind.ensures ∙ ap words_of (sym (c.bytes.ensures.value i mine)) in
    let second = ap (λ k. words_of (numbers_in_bytes k c.bytes-bytes.result.now)) c.kind-3.ensures ∙ ap words_of (sym (c.bytes-bytes.ensures.value j theirs)) in
    take_at new (drop (length new) t) c.truncate.new.self.len long
    ∙ combined
    ∙ ap (λ ts. op ts ys) cut
    ∙ ap (map f) (zip_cut xs ys)
    ∙ ap₂ op first second
