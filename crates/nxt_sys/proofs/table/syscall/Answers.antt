-- What the call of the number does is what its own function does.
use Rattle.std.proofs.Common.{◌≡◌, Some, Ok, sym, ap, ◌∙◌, subst}
use Rattle.nxt_types.specs.Calls.{call_of}
use Rattle.nxt_types.specs.declared.calls.Call.TheVariants as calls
use Rattle.nxt_sys.specs.Calls.{Calls, clock_of}
use Rattle.nxt_sys.proofs.Calling.{number_is}
use Rattle.nxt_sys.proofs.table.syscall.Goals as goal

pub returns-in-GetSound-clause-calls : goal.returns-in-GetSound-clause-calls
returns-in-GetSound-clause-calls c =
    let is : call_of c.args.number ≡ Some calls.GetSound = sym c.from_number.ensures ∙ c.in-Some.is ∙ ap Some c.in-GetSound.is in
    subst
    (λ n. Calls n c.args.cluster (clock_of c.args.clock) c.args.space.now c.args.io.now c.args.out.now (Ok tt) c.get_sound.new.space c.args.io.now c.args.out.now)
    (sym (number_is c.args.number calls.GetSound is))
    (c.get_sound.ensures.calls (clock_of c.args.clock) c.args.out.now)

pub returns-in-SetSound-clause-calls : goal.returns-in-SetSound-clause-calls
returns-in-SetSound-clause-calls c =
    let is : call_of c.args.number ≡ Some calls.SetSound = sym c.from_number.ensures ∙ c.in-Some.is ∙ ap Some c.in-SetSound.is in
    subst
    (λ n. Calls n c.args.cluster (clock_of c.args.clock) c.args.space.now c.args.io.now c.args.out.now c.set_sound.result c.set_sound.new.space c.set_sound.new.io c.set_sound.new.out)
    (sym (number_is c.args.number calls.SetSound is))
    (c.set_sound.ensures.calls (clock_of c.args.clock))

pub returns-in-DrawText-clause-calls : goal.returns-in-DrawText-clause-calls
returns-in-DrawText-clause-calls c =
    let is : call_of c.args.number ≡ Some calls.DrawText = sym c.from_number.ensures ∙ c.in-Some.is ∙ ap Some c.in-DrawText.is in
    subst
    (λ n. Calls n c.args.cluster (clock_of c.args.clock) c.args.space.now c.args.io.now c.args.out.now c.draw_text.result c.draw_text.new.space c.args.io.now c.draw_text.new.out)
    (sym (number_is c.args.number calls.DrawText is))
    (c.draw_text.ensures.calls c.args.io.now (clock_of c.args.clock))

pub returns-in-DrawPoint-clause-calls : goal.returns-in-DrawPoint-clause-calls
returns-in-DrawPoint-clause-calls c =
    let is : call_of c.args.number ≡ Some calls.DrawPoint = sym c.from_number.ensures ∙ c.in-Some.is ∙ ap Some c.in-DrawPoint.is in
    subst
    (λ n. Calls n c.args.cluster (clock_of c.args.clock) c.args.space.now c.args.io.now c.args.out.now c.draw_point.result c.draw_point.new.space c.args.io.now c.draw_point.new.out)
    (sym (number_is c.args.number calls.DrawPoint is))
    (c.draw_point.ensures.calls c.args.io.now (clock_of c.args.clock))

pub returns-in-DrawLine-clause-calls : goal.returns-in-DrawLine-clause-calls
returns-in-DrawLine-clause-calls c =
    let is : call_of c.args.number ≡ Some calls.DrawLine = sym c.from_number.ensures ∙ c.in-Some.is ∙ ap Some c.in-DrawLine.is in
    subst
    (λ n. Calls n c.args.cluster (clock_of c.args.clock) c.args.space.now c.args.io.now c.args.out.now c.draw_line.result c.draw_line.new.space c.args.io.now c.draw_line.new.out)
    (sym (number_is c.args.number calls.DrawLine is))
    (c.draw_line.ensures.calls c.args.io.now (clock_of c.args.clock))

pub returns-in-DrawCircle-clause-calls : goal.returns-in-DrawCircle-clause-calls
returns-in-DrawCircle-clause-calls c =
    let is : call_of c.args.number ≡ Some calls.DrawCircle = sym c.from_number.ensures ∙ c.in-Some.is ∙ ap Some c.in-DrawCircle.is in
    subst
    (λ n. Calls n c.args.cluster (clock_of c.args.clock) c.args.space.now c.args.io.now c.args.out.now c.draw_circle.result c.draw_circle.new.space c.args.io.now c.draw_circle.new.out)
    (sym (number_is c.args.number calls.DrawCircle is))
    (c.draw_circle.ensures.calls c.args.io.now (clock_of c.args.clock))

pub returns-in-DrawRect-clause-calls : goal.returns-in-DrawRect-clause-calls
returns-in-DrawRect-clause-calls c =
    let is : call_of c.args.number ≡ Some calls.DrawRect = sym c.from_number.ensures ∙ c.in-Some.is ∙ ap Some c.in-DrawRect.is in
    subst
    (λ n. Calls n c.args.cluster (clock_of c.args.clock) c.args.space.now c.args.io.now c.args.out.now c.draw_rect.result c.draw_rect.new.space c.args.io.now c.draw_rect.new.out)
    (sym (number_is c.args.number calls.DrawRect is))
    (c.draw_rect.ensures.calls c.args.io.now (clock_of c.args.clock))

pub returns-in-SetScreen-clause-calls : goal.returns-in-SetScreen-clause-calls
returns-in-SetScreen-clause-calls c =
    let is : call_of c.args.number ≡ Some calls.SetScreen = sym c.from_number.ensures ∙ c.in-Some.is ∙ ap Some c.in-SetScreen.is in
    subst
    (λ n. Calls n c.args.cluster (clock_of c.args.clock) c.args.space.now c.args.io.now c.args.out.now c.set_screen.result c.set_screen.new.space c.args.io.now c.set_screen.new.out)
    (sym (number_is c.args.number calls.SetScreen is))
    (c.set_screen.ensures.calls c.args.io.now (clock_of c.args.clock))

pub returns-in-ReadButton-clause-calls : goal.returns-in-ReadButton-clause-calls
returns-in-ReadButton-clause-calls c =
    let is : call_of c.args.number ≡ Some calls.ReadButton = sym c.from_number.ensures ∙ c.in-Some.is ∙ ap Some c.in-ReadButton.is in
    subst
    (λ n. Calls n c.args.cluster (clock_of c.args.clock) c.args.space.now c.args.io.now c.args.out.now (Ok tt) c.read_button.new.space c.read_button.new.io c.args.out.now)
    (sym (number_is c.args.number calls.ReadButton is))
    (c.read_button.ensures.calls (clock_of c.args.clock) c.args.out.now)

pub returns-in-RandomNumber-clause-calls : goal.returns-in-RandomNumber-clause-calls
returns-in-RandomNumber-clause-calls c =
    let is : call_of c.args.number ≡ Some calls.RandomNumber = sym c.from_number.ensures ∙ c.in-Some.is ∙ ap Some c.in-RandomNumber.is in
    subst
    (λ n. Calls n c.args.cluster (clock_of c.args.clock) c.args.space.now c.args.io.now c.args.out.now (Ok tt) c.random_number.new.space c.random_number.new.io c.args.out.now)
    (sym (number_is c.args.number calls.RandomNumber is))
    (c.random_number.ensures.calls (clock_of c.args.clock) c.args.out.now)

pub returns-in-StartTick-clause-calls : goal.returns-in-StartTick-clause-calls
returns-in-StartTick-clause-calls c =
    let is : call_of c.args.number ≡ Some calls.StartTick = sym c.from_number.ensures ∙ c.in-Some.is ∙ ap Some c.in-StartTick.is in
    subst
    (λ n. Calls n c.args.cluster (clock_of c.args.clock) c.args.space.now c.args.io.now c.args.out.now (Ok tt) c.start_tick.new.space c.args.io.now c.args.out.now)
    (sym (number_is c.args.number calls.StartTick is))
    (c.start_tick.ensures.calls c.args.io.now c.args.out.now)

pub returns-in-WriteMessage-clause-calls : goal.returns-in-WriteMessage-clause-calls
returns-in-WriteMessage-clause-calls c =
    let is : call_of c.args.number ≡ Some calls.WriteMessage = sym c.from_number.ensures ∙ c.in-Some.is ∙ ap Some c.in-WriteMessage.is in
    subst
    (λ n. Calls n c.args.cluster (clock_of c.args.clock) c.args.space.now c.args.io.now c.args.out.now c.write_message.result c.write_message.new.space c.write_message.new.io c.args.out.now)
    (sym (number_is c.args.number calls.WriteMessage is))
    (c.write_message.ensures.calls (clock_of c.args.clock) c.args.out.now)

pub returns-in-ReadMessage-clause-calls : goal.returns-in-ReadMessage-clause-calls
returns-in-ReadMessage-clause-calls c =
    let is : call_of c.args.number ≡ Some calls.ReadMessage = sym c.from_number.ensures ∙ c.in-Some.is ∙ ap Some c.in-ReadMessage.is in
    subst
    (λ n. Calls n c.args.cluster (clock_of c.args.clock) c.args.space.now c.args.io.now c.args.out.now c.read_message.result c.read_message.new.space c.read_message.new.io c.args.out.now)
    (sym (number_is c.args.number calls.ReadMessage is))
    (c.read_message.ensures.calls (clock_of c.args.clock) c.args.out.now)

pub returns-in-KeepAlive-clause-calls : goal.returns-in-KeepAlive-clause-calls
returns-in-KeepAlive-clause-calls c =
    let is : call_of c.args.number ≡ Some calls.KeepAlive = sym c.from_number.ensures ∙ c.in-Some.is ∙ ap Some c.in-KeepAlive.is in
    subst
    (λ n. Calls n c.args.cluster (clock_of c.args.clock) c.args.space.now c.args.io.now c.args.out.now (Ok tt) c.keep_alive.new.space c.args.io.now c.args.out.now)
    (sym (number_is c.args.number calls.KeepAlive is))
    (c.keep_alive.ensures.calls c.args.io.now (clock_of c.args.clock) c.args.out.now)
