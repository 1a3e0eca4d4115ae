use Rattle.std.proofs.Common.{◌≡◌, ◌∙◌, ◌||◌, Result, Ok, Err, OnOk, ap, sym}
use Rattle.std.specs.Prelude.{is_some}
use Rattle.std.proofs.lemmas.Bool.{or_from, or_left, or_right}
use Rattle.nxt_model.specs.Nbc.NbcRules.{is_taken}
use Rattle.nxt_nbc_names.specs.SourceSeen.{source_seen}
use Rattle.nxt_nbc.specs.Spaces.{is_among}
use Rattle.nxt_nbc.proofs.SpaceLoops.{among_position, when_again, when_new}
use Rattle.nxt_nbc.proofs.spaces.Space.declare.Goals as goal
use Rattle.nxt_nbc.proofs.spaces.Space.declare.Goals.{then-is_some, then-is_some-via-then-is_some, then-is_some-via-else-is_some+then-is_taken, else-is_some+else-is_taken}

told : {T E : Type 0} (r : Result T E) {P : Type 0} → P → OnOk r P
told (Ok x) p = p
told (Err e) p = tt

pub returns-clause-twice : goal.returns-clause-twice
returns-clause-twice c =
    let found = c.args.self.now.twice in
    let now = c.if-is_some.self.twice in
    let line = c.args.line in
    let among = is_among c.args.self.now.names c.args.name.now in
    let taken = is_taken (source_seen c.args.source.now) line c.args.name.now in
    let is : among ≡ c.is_some.result =
    sym (among_position c.args.self.now.names c.args.name.now) ∙ ap is_some (sym c.position.ensures) ∙ sym c.is_some.ensures in
    elim c.if-is_some.branch [
      | then-is_some w ↦
          let e = ap (λ s. s.twice) w.self-is ∙ w.lesser-self.ensures in
          elim w.then-is_some.branch [
            | then-is_some-via-then-is_some v ↦ told c.push.result (when_again found now (among || taken) line e (or_left among taken (is ∙ v.if-is_some.true)))
            | then-is_some-via-else-is_some+then-is_taken v ↦
                told c.push.result (when_again found now (among || taken) line e (or_right among taken (sym v.is_taken.ensures ∙ v.if-is_taken.true)))
          ]
      | else-is_some+else-is_taken w ↦
          told c.push.result
          (when_new found now (among || taken) line (ap (λ s. s.twice) w.self-is)
          (or_from among taken (is ∙ w.if-is_some.false) (sym w.is_taken.ensures ∙ w.if-is_taken.false)))
    ]
