use Rattle.std.proofs.Common.{◌≡◌, ◌++◌, ◌∷◌, [], ℕ, List, map, length, position, bytes_eq, Bor, sym, ap, subst, ◌∙◌, Some}
use Rattle.std.proofs.lemmas.List.{map-append}
use Rattle.indexmap.specs.IndexMap.{Updates}
use Rattle.nxt_nbc_names.specs.Inside.Names.{ArePlaced, same_name}
use Rattle.nxt_nbc_names.proofs.Positions.{pushed_again, pushed_new}
use Rattle.nxt_nbc_names.proofs.name_table.NameTable.push.Goals as goal
use Rattle.nxt_nbc_names.proofs.name_table.NameTable.push.Goals.{then-is_new+in_ok-insert, else-is_new}

pub invariant_of-self-2 : goal.invariant_of-self-2
invariant_of-self-2 c =
    let name = c.args.name in
    let names = map (λ (n : Bor (List ℕ)). n.now) c.self.inside.names.items in
    let found = c.position.ensures ∙ sym (ap (position (λ n. bytes_eq n name.now)) c.self.view_is) in
    let kept : c.try_reserve.new.self.items ≡ c.self.inside.names.items = c.in_ok-try_reserve.ensures.items in
    elim c.if-is_new.branch [
      | then-is_new+in_ok-insert w ↦
          let items = c.in_ok-push.ensures.items ∙ ap (λ s. s.names.items ++ name ∷ []) w.self-inside-is ∙ ap (λ ns. ns ++ name ∷ []) kept in
          let seen : names ++ name.now ∷ [] ≡ map (λ (n : Bor (List ℕ)). n.now) c.push.new.self.items =
          sym (map-append (λ (n : Bor (List ℕ)). n.now) c.self.inside.names.items (name ∷ [])) ∙ sym (ap (map (λ (n : Bor (List ℕ)). n.now)) items) in
          let count = c.len-here.ensures ∙ sym (ap length c.self.view_is) in
          let updates = subst (λ n. Updates same_name c.self.inside.firsts w.insert.new.self name (Some n)) count w.in_ok-insert.ensures.updates in
          subst (λ f. ArePlaced (map (λ (n : Bor (List ℕ)). n.now) c.push.new.self.items) f) (sym (ap (λ s. s.firsts) w.self-inside-is))
          (subst (λ ns. ArePlaced ns w.insert.new.self) seen
          (pushed_new names c.self.inside.firsts w.insert.new.self name c.position.result c.is_none-is_new.result c.self.invariant found c.is_none-is_new.ensures w.if-is_new.true updates))
      | else-is_new w ↦
          let items = c.in_ok-push.ensures.items ∙ ap (λ s. s.names.items ++ name ∷ []) w.self-inside-is ∙ ap (λ ns. ns ++ name ∷ []) kept in
          let seen : names ++ name.now ∷ [] ≡ map (λ (n : Bor (List ℕ)). n.now) c.push.new.self.items =
          sym (map-append (λ (n : Bor (List ℕ)). n.now) c.self.inside.names.items (name ∷ [])) ∙ sym (ap (map (λ (n : Bor (List ℕ)). n.now)) items) in
          subst (λ f. ArePlaced (map (λ (n : Bor (List ℕ)). n.now) c.push.new.self.items) f) (sym (ap (λ s. s.firsts) w.self-inside-is))
          (subst (λ ns. ArePlaced ns c.self.inside.firsts) seen
          (pushed_again names c.self.inside.firsts c.self.inside.firsts name c.position.result c.is_none-is_new.result c.self.invariant found c.is_none-is_new.ensures w.if-is_new.false))
    ]
