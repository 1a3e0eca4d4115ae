-- The statement of kind 1.
use Rattle.std.proofs.Common.{◌≡◌, ◌++◌, ◌∙◌, ℕ, List, OnOk, ap, append_assoc, subst, sym, decimal}
use Rattle.std.specs.Prelude.{codes}
use Rattle.nxt_gen.specs.Generator.{on_lists}
use Rattle.nxt_gen.proofs.text.push_list_statement.Goals as goal

pub returns-in_ok-push_lists-in-1 : goal.returns-in_ok-push_lists-in-1
returns-in_ok-push_lists-in-1 c =
    let text : List ℕ = c.args.text.now in
    let lists : List ℕ = on_lists (codes "arrsubset a") c.args.of c.args.from in
    let number : List ℕ = decimal c.args.number in
    rw c.in-1.is (subst (λ (t : List ℕ). OnOk c.push_numbered-in-1.result (c.push_numbered-in-1.new.text ≡ t))
    (ap (λ t. t ++ (codes ", 0, " ++ number)) c.in_ok-push_lists-in-1.ensures ∙ append_assoc text lists (codes ", 0, " ++ number) ∙ ap (λ t. text ++ t) (sym (append_assoc lists (codes ", 0, ") number)))
    c.push_numbered-in-1.ensures)
