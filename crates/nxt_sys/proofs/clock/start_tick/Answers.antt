-- The moment is told by its word.
use Rattle.std.proofs.Common.{◌≡◌, ◌∷◌, [], ◌%◌, pos, Ok, w64, to_z, of_z, to_z-of_z, refl, sym, ap, ◌∙◌, subst, append-nil}
use Rattle.nxt_types.specs.declared.calls.Call.TheVariants.{StartTick}
use Rattle.nxt_model.specs.SystemCalls.{field_shape}
use Rattle.nxt_model.specs.Values.{Num, stored}
use Rattle.nxt_model.specs.Variables.{put}
use Rattle.nxt_space.specs.Outcomes.{Does}
use Rattle.nxt_space.specs.Variables.{shape_of}
use Rattle.nxt_operands.specs.Operands.{Done, place_of}
use Rattle.nxt_sys.proofs.Answered.{word_told}
use Rattle.nxt_sys.proofs.clock.start_tick.Goals as goal

pub returns-clause-calls : goal.returns-clause-calls
returns-clause-calls c d out =
    let s = c.args.space.now.vars in
    let i = c.args.cluster in
    let word : to_z w64 (of_z w64 c.from.result) ≡ pos (c.args.clock.start % 4294967296) = to_z-of_z {w = w64} {z = c.from.result} (record { sfits = c.from.type_inv }) ∙ c.from.ensures in
    let same = ap (λ y. stored (field_shape 0 (shape_of s i)) (Num y)) word ∙ word_told s StartTick i c.args.clock.start c.requires in (
      subst (λ v. Does {T = Unit {0}} Done (put (place_of s i) (0 ∷ []) v s.values) c.args.space.now (Ok tt) c.answer.new.space) same c.answer.ensures.does,
      refl,
      sym (append-nil out.lines),
    )
