-- The words of `asm`.
use Rattle.std.proofs.Common.{◌≡◌, ◌≤◌, ◌<◌, ◌∙◌, ℕ, List, [], ◌∷◌, Some, true, refl, sym, ap, ap₂, arith, length, get_or, codes}
use Rattle.std.specs.Prelude.{bytes_eq, Vec}
use Rattle.std.specs.declared.alloc.Global.{Global}
use Rattle.nxt_tool.specs.Words.{command_of, texts_of}
use Rattle.nxt_tool.specs.declared.words.Command.TheVariants.{Assemble}
use Rattle.nxt_tool.proofs.words.form_of.Goals as goal

three_words : (ws : List (Vec ℕ Global)) (d : Vec ℕ Global) → 3 ≤ length ws → length ws < 4 → bytes_eq (get_or ws 0 d).items (codes "asm") ≡ true → Some Assemble ≡ command_of (texts_of ws)
three_words (a ∷ b ∷ c ∷ []) d least most e = rw e refl
three_words [] d least most e = absurd (omega (arith, least))
three_words (a ∷ []) d least most e = absurd (omega (arith, least))
three_words (a ∷ b ∷ []) d least most e = absurd (omega (arith, least))
three_words (a ∷ b ∷ c ∷ f ∷ more) d least most e = absurd (omega (arith, most))

pub returns-then-eq-4 : goal.returns-then-eq-4
returns-then-eq-4 c =
    let name = c.name-item-then-words-lt4.result in
    let is : bytes_eq name.items (codes "asm") ≡ true =
    ap₂ bytes_eq (sym c.as_slice-in-len3.ensures.value) (sym c.as_slice-in-len3-2.ensures) ∙ (sym c.eq-in-len3.ensures ∙ c.if-eq-4.true) in
    three_words c.args.words.now name c.in-len3.len_at_least c.in-len3.len_below (ap (λ (v : Vec ℕ Global). bytes_eq v.items (codes "asm")) (sym c.name-item-then-words-lt4.is) ∙ is)
