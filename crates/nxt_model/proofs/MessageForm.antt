-- A message, and zeros behind it.
use Rattle.std.proofs.Common.{◌≡◌, ℕ, ◌-◌, ◌≤◌, Bool, true, ◌&&◌, List, ◌++◌, length, drop, replicate, slice_index_or, sym, ap, ◌∙◌, subst, arith}
use Rattle.std.proofs.lemmas.Bool.{le-leb, eq-eqb}
use Rattle.std.proofs.lemmas.List.{drop-replicate, length-append}
use Rattle.std.proofs.Math.Seq.{take-append_seam}
use Rattle.nxt_model.specs.DirectCommands.{filled}
use Rattle.nxt_model.specs.Messages.{IsKept, is_message}
use Rattle.nxt_model.specs.declared.message.Message.TheInside.{Inside}

three : {a b c : Bool} → a ≡ true → b ≡ true → c ≡ true → (a && b && c) ≡ true
three p q r = cc

message_of : (xs : List ℕ) → (length xs ≡ 0 → ⊥) → length xs ≤ 59 → slice_index_or xs (length xs - 1) 0 ≡ 0 → is_message xs ≡ true
message_of xs some few ends = three (le-leb 1 (length xs) (omega (some, arith))) (le-leb (length xs) 59 few) (eq-eqb _ _ ends)

abbrev pub with_zeros : List ℕ → List ℕ → Inside
with_zeros xs b = record { size = length xs; bytes = b ++ drop (length xs) (replicate 59 0) }

kept : (xs : List ℕ) → (length xs ≡ 0 → ⊥) → length xs ≤ 59 → slice_index_or xs (length xs - 1) 0 ≡ 0 → IsKept (with_zeros xs xs)
kept xs some few ends =
    let front = take-append_seam xs (drop (length xs) (replicate 59 0)) in
    record {
      few = few;
      held = omega (length-append xs (drop (length xs) (replicate 59 0)), arith);
      bytes = ap (λ z. xs ++ z) (drop-replicate (length xs) 59 0) ∙ ap (filled 59) (sym front);
      message = ap is_message front ∙ message_of xs some few ends;
    }

pub kept_of : (xs b : List ℕ) → (length xs ≡ 0 → ⊥) → length xs ≤ 59 → slice_index_or xs (length xs - 1) 0 ≡ 0 → xs ≡ b → IsKept (with_zeros xs b)
kept_of xs b some few ends same = subst (λ ys. IsKept (with_zeros xs ys)) same (kept xs some few ends)
