-- What a call that reads a message leaves in its place.
use Rattle.std.proofs.Common.{◌≡◌, ℕ, ◌≤◌, inl, inr, [], ◌∷◌, length, Ok, Err, sym, ap, ◌∙◌, subst}
use Rattle.std.specs.declared.result.Result.{Result}
use Rattle.nxt_types.specs.Names.{name_among}
use Rattle.nxt_types.specs.Shapes.{has_list, is_numbers}
use Rattle.nxt_model.specs.Values.{Value, elements}
use Rattle.nxt_space.specs.Keeping.{HasNoList, GetsNoLonger, Leaves}
use Rattle.nxt_space.specs.Outcomes.{Does}
use Rattle.nxt_space.specs.Variables.{SpaceViews, name_of, shape_by, value_by, value_of}
use Rattle.nxt_space.specs.declared.fault.OpFault.{OpFault}
use Rattle.nxt_space.specs.declared.fault.OpFault.TheVariants.{PoolPassed, NoMemory}

-- a statement leaves the shapes
pub same_shapes : {T : Type 0} (is : T → Type 0) (vars : Value) (old new : SpaceViews) (r : Result T OpFault) → Does is vars old r new → new.vars.shapes ≡ old.vars.shapes
same_shapes is vars old new (Ok x) d = ap (λ s. s.shapes) d.1
same_shapes is vars old new (Err (PoolPassed f)) d = ap (λ s. s.vars.shapes) d.2
same_shapes is vars old new (Err NoMemory) d = ap (λ s. s.vars.shapes) d

-- ---- two entries of one name

module _ (old new : SpaceViews) (e i : ℕ) (names : name_of old.vars i ≡ name_of old.vars e) (shapes : new.vars.shapes ≡ old.vars.shapes) where
  none_there : HasNoList old.vars i → HasNoList old.vars e
  none_there none = ap (λ o. has_list (shape_by o)) (sym names) ∙ none

  now : name_of new.vars i ≡ name_of new.vars e
  now = ap (λ ss. name_among ss 0 i) shapes ∙ names ∙ sym (ap (λ ss. name_among ss 0 e) shapes)

  less_there : GetsNoLonger old.vars new.vars i → GetsNoLonger old.vars new.vars e
  less_there (inl none) = inl (none_there none)
  less_there (inr less) = inr (
    ap (λ o. is_numbers (shape_by o)) (sym names) ∙ less.0,
    subst (λ o. length (elements (value_by o new.vars.values)) ≤ length (elements (value_of old.vars e))) now
        (subst (λ o. length (elements (value_of new.vars i)) ≤ length (elements (value_by o old.vars.values))) names less.1),
  )

  pub same_entry : Leaves (e ∷ []) old new → Leaves (i ∷ []) old new
  same_entry left = record { table = λ none. left.table (none_there none.0, tt); blocks = λ less. left.blocks (less_there less.0, tt) }
