-- One more leaf, which may be an array.
use Rattle.std.proofs.Common.{rules, ◌≡◌, ◌+◌, ◌≤◌, ◌^◌, true, false, ◌++◌, [], ◌∷◌, if◌then◌else◌, All, None, inr, option_map, refl, ap, sym, ◌∙◌, subst, map, drop, get_or, length, length-append, arith}
use Rattle.std.specs.Prelude.{slice_index}
use Rattle.std.specs.Rc.{rc_slice_items}
use Rattle.std.proofs.lemmas.List.{drop_more}
use Rattle.std.proofs.lemmas.List.Elements.{All-cons}
use Rattle.nxt_table.specs.declared.item.Item.TheVariants.{Void}
use Rattle.nxt_table.specs.declared.leaves.PlacedLeaf.{PlacedLeaf}
use Rattle.nxt_layout.specs.declared.reach.OpenArray.{OpenArray}
use Rattle.nxt_layout.specs.declared.fault.LayoutFault.TheVariants.{RowIndex}
use Rattle.nxt_layout.specs.Inside.RowPasses.{ground_of, opened, back_to, is_array_item, array_leaves, through_from, through_by, open_by, places_in, told, first_beyond, AreTold}
use Rattle.nxt_layout.specs.Inside.Known.{IsOpen, IsFoundIn, IsKnown}
use Rattle.nxt_layout.proofs.Dope.Through.{array_more, array_less, told_through, open_rows, new_elements}
use Rattle.nxt_layout.proofs.Dope.Told.{HasMarks, told_more, beyond_more}
use Rattle.nxt_layout.proofs.reach.arrays_of.Goals.{then-is_array+in_ok-found+else-found+in_ok-reading+in_ok-add+in_ok-push_front, else-is_array}
use Rattle.nxt_layout.proofs.reach.arrays_of.Goals as goal

pub loop-leaf-init : goal.loop-leaf-init
loop-leaf-init c =
    let g = ground_of c.args.space.now in
    let none : c.new-stack.result.items ≡ [] = c.new-stack.ensures.items in
    record {
      left = record {
        done = [];
        told_of_done = c.in_ok-arrays.ensures.told;
        split = ap (λ os. through_from g (slice_index c.args.extents.now) (map opened os) (array_leaves c.args.leaves.now)) none;
      };
      open_still = search rules;
      known = c.new-known.ensures g;
      count = search rules;
    }

pub rows_through-requires-clause-open : goal.rows_through-requires-clause-open
rows_through-requires-clause-open c = c.close.ensures.open (ground_of c.args.space.now) c.loop-leaf.invariant.open_still

pub returns-then-found-clause-refused : goal.returns-then-found-clause-refused
returns-then-found-clause-refused c =
    let g = ground_of c.args.space.now in
    let ext = slice_index c.args.extents.now in
    let leaves = c.args.leaves.now in
    let k = c.loop-leaf.leaf-index in
    let d : PlacedLeaf = record { entry = 0; place = 0; item = Void; array = None; has_default = false } in
    let l = get_or leaves k d in
    let rest = drop (k + 1) leaves in
    let next : drop k leaves ≡ l ∷ rest = drop_more leaves k d c.loop-leaf-test.true in
    let left = c.loop-leaf.invariant.left in
    let os = map opened c.loop-leaf.stack.items in
    let it : is_array_item l.item ≡ true = search rules in
    let bases = places_in g (back_to l.array os) in
    let f = c.in_ok-found.found in
    let f_is : IsFoundIn g l.place bases f = subst (λ ys. IsFoundIn g l.place (places_in g ys) f) c.close.ensures.rest c.in_ok-found.ensures.found in
    let t = through_by g ext l bases in
    let later = through_from g ext (open_by g t ∷ back_to l.array os) (array_leaves rest) in
    let beyond : t.beyond ≡ true = sym f_is.beyond ∙ c.if-found.true in
    let split : left.done ++ t ∷ later ≡ through_from g ext [] (array_leaves leaves) =
    ap (λ b. left.done ++ through_from g ext os (if b then l ∷ array_leaves rest else array_leaves rest)) (sym it)
    ∙ ap (λ ls. left.done ++ through_from g ext os (array_leaves ls)) (sym next)
    ∙ left.split in
    inr (ap (λ ts. option_map RowIndex (first_beyond ts)) (sym split) ∙ ap (option_map RowIndex) (beyond_more left.done t later left.told_of_done.none beyond))

pub loop-leaf-preserved : goal.loop-leaf-preserved
loop-leaf-preserved c =
    let g = ground_of c.args.space.now in
    let ext = slice_index c.args.extents.now in
    let leaves = c.args.leaves.now in
    let k = c.loop-leaf.leaf-index in
    let d : PlacedLeaf = record { entry = 0; place = 0; item = Void; array = None; has_default = false } in
    let l = get_or leaves k d in
    let rest = drop (k + 1) leaves in
    let next : drop k leaves ≡ l ∷ rest = drop_more leaves k d c.loop-leaf-test.true in
    let left = c.loop-leaf.invariant.left in
    let os = map opened c.loop-leaf.stack.items in
    let found = ap (λ ls. left.done ++ through_from g ext os (array_leaves ls)) (sym next) ∙ left.split in
    elim c.if-is_array.branch [
      | then-is_array+in_ok-found+else-found+in_ok-reading+in_ok-add+in_ok-push_front w ↦ (let it : is_array_item l.item ≡ true = search rules in
          let f = w.in_ok-found.found in
          let reading = w.in_ok-reading.reading in
          let bytes = w.extent-bytes.result in
          let ext_is : bytes ≡ ext l.entry = w.extent-bytes.ensures in
          let bases = places_in g (back_to l.array os) in
          let f_is : IsFoundIn g l.place bases f = subst (λ ys. IsFoundIn g l.place (places_in g ys) f) w.close.ensures.rest w.in_ok-found.ensures.found in
          let t = through_by g ext l bases in
          let o : OpenArray = record { entry = l.entry; elements = w.new-then-is_array.result } in
          let stack : c.if-is_array.stack.items ≡ o ∷ w.rows_through.new.stack.items = ap (λ v. v.items) w.stack-is ∙ w.in_ok-push_front.ensures.items in
          let around : map opened w.rows_through.new.stack.items ≡ back_to l.array os = w.in_ok-found.ensures.stack ∙ w.close.ensures.rest in
          let arrays : c.if-is_array.arrays ≡ w.add.new.self = w.arrays-is in
          let told_of : record { entry = l.entry; stride = reading.stride; lists = f.lists; misstrided = reading.misstrided } ≡ told g t =
          told_through g ext l bytes bases f reading f_is ext_is w.in_ok-reading.ensures.stride w.in_ok-reading.ensures.misstrided in
          let beyond : t.beyond ≡ false = sym f_is.beyond ∙ w.if-found.false in
          let read : rc_slice_items o.elements.rows ≡ rc_slice_items reading.rows = ap rc_slice_items w.new-then-is_array.ensures.rows in
          record {
            left = record {
              done = left.done ++ t ∷ [];
              told_of_done = subst (λ a. AreTold g (left.done ++ t ∷ []) a) (sym arrays) (told_more g left.done t c.loop-leaf.arrays w.add.new.self left.told_of_done
                  (w.in_ok-add.ensures.found ∙ ap (λ x. c.loop-leaf.arrays.found.items ++ x ∷ []) told_of)
                  w.in_ok-add.ensures.count
                  (subst (λ rows. HasMarks rows c.loop-leaf.arrays.marks.items w.add.new.self.marks.items) f_is.rows w.in_ok-add.ensures.marks)
                  beyond
                  (subst (λ n. n ≤ 2 ^ 33) f_is.lists f_is.bound));
              split = ap (λ ys. (left.done ++ t ∷ []) ++ through_from g ext (map opened ys) (array_leaves rest)) stack
                  ∙ ap (λ ys. (left.done ++ t ∷ []) ++ through_from g ext (opened o ∷ ys) (array_leaves rest)) around
                  ∙ array_more g ext left.done os l rest t (opened o) it refl (open_rows g ext l bytes bases (rc_slice_items o.elements.rows) f f_is ext_is (read ∙ w.in_ok-reading.ensures.rows))
                  ∙ found;
            };
            open_still = subst (All (IsOpen g)) (sym stack) (All-cons (IsOpen g) o w.rows_through.new.stack.items (new_elements g l.place bytes bases f o.elements f_is (read ∙ w.in_ok-reading.ensures.rows) w.new-then-is_array.ensures.places) w.in_ok-found.ensures.open);
            known = subst (IsKnown g) (sym w.known-is) w.in_ok-found.ensures.known;
            count = omega (arith, ap (λ a. length a.found.items) w.arrays-is, ap length w.in_ok-add.ensures.found, length-append c.loop-leaf.arrays.found.items (record { entry = l.entry; stride = reading.stride; lists = f.lists; misstrided = reading.misstrided } ∷ []), c.loop-leaf.invariant.count);
          })
      | else-is_array w ↦ (let other : is_array_item l.item ≡ false = search rules in
          record {
            left = record {
              done = left.done;
              told_of_done = subst (λ a. AreTold g left.done a) (sym w.arrays-is) left.told_of_done;
              split = ap (λ ys. left.done ++ through_from g ext (map opened ys) (array_leaves rest)) (ap (λ v. v.items) w.stack-is) ∙ array_less g ext left.done os l rest other ∙ found;
            };
            open_still = search rules;
            known = subst (IsKnown g) (sym w.known-is) c.loop-leaf.invariant.known;
            count = search rules;
          })
    ]
