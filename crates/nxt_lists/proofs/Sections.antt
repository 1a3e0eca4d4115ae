-- Which lists statements on the elements of a list give.
use Rattle.std.proofs.Common.{◌≡◌, ℕ, ◌+◌, ◌-◌, true, ◌++◌, length, take, drop, IsSome, arith, length-take, length-drop}
use Rattle.std.specs.Prelude.{slice_range}
use Rattle.std.proofs.lemmas.List.Elements.{All-take, All-drop, All-append}
use Rattle.nxt_types.specs.OperandRules.{is_list, element_of, goes_into}
use Rattle.nxt_types.specs.Shapes.{convertible}
use Rattle.nxt_model.specs.Means.Arrays.{overwritten, pieces}
use Rattle.nxt_model.specs.Values.{elements}
use Rattle.nxt_space.specs.Variables.{Variables, AreSound, name_of, shape_of, value_of}
use Rattle.nxt_operands.specs.Operands.{given}
use Rattle.nxt_operands.proofs.Laws.Sizes.{sound_part}
use Rattle.nxt_lists.proofs.Between.{length-overwritten}
use Rattle.nxt_lists.proofs.ListElements.{IsElement, list_elements, pieces_elements, elements_fit, list_few}
use Rattle.nxt_lists.proofs.ListStored.{AreFor}
use Rattle.nxt_lists.proofs.Conversions.{lists_fit}

-- elements of a list from one index up to another
pub section_for : (s : Variables) (dest list from to : ℕ) → AreSound s → IsSome (name_of s list) → is_list (shape_of s list) ≡ true → convertible (shape_of s dest) (shape_of s list) ≡ true → AreFor s dest (slice_range (elements (value_of s list)) from to)
section_for s dest list from to sound some is fits =
    let xs = elements (value_of s list) in
    let e = IsElement (element_of (shape_of s dest)) in
    let lists = lists_fit (shape_of s list) (shape_of s dest) is fits in
    let part = sound_part s list sound some in
    record {
      list = lists.list;
      elements = All-take e (to - from) (drop from xs) (All-drop e from xs (list_elements (shape_of s dest) (shape_of s list) (value_of s list) lists.list fits part));
      few = omega (arith, list_few (shape_of s list) (value_of s list) is part, length-take (to - from) (drop from xs), length-drop from xs);
    }

-- others in place of some of them
pub overwritten_for : (s : Variables) (dest list at new : ℕ) → AreSound s → IsSome (name_of s list) → IsSome (name_of s new) → is_list (shape_of s list) ≡ true → convertible (shape_of s dest) (shape_of s list) ≡ true → goes_into (shape_of s list) (shape_of s new) ≡ true → AreFor s dest (overwritten (elements (value_of s list)) at (pieces (shape_of s list) (given s new)))
overwritten_for s dest list at new sound some some_new is fits goes =
    let l = shape_of s list in
    let xs = elements (value_of s list) in
    let ys = pieces l (given s new) in
    let e = IsElement (element_of (shape_of s dest)) in
    let lists = lists_fit l (shape_of s dest) is fits in
    let part = sound_part s list sound some in
    let old = list_elements (shape_of s dest) l (value_of s list) lists.list fits part in
    let others = elements_fit (element_of (shape_of s dest)) (element_of l) ys lists.element (pieces_elements l (shape_of s new) (value_of s new) is goes (sound_part s new sound some_new)) in
    record {
      list = lists.list;
      elements = All-append e (take at xs ++ take (length xs - at) ys) (drop (at + length ys) xs)
          (All-append e (take at xs) (take (length xs - at) ys) (All-take e at xs old) (All-take e (length xs - at) ys others))
          (All-drop e (at + length ys) xs old);
      few = omega (arith, list_few l (value_of s list) is part, length-overwritten xs ys at);
    }
