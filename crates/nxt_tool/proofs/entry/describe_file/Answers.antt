-- What is due to a program that is described, by how far it was read.
use Rattle.std.proofs.Common.{◌≡◌, ℕ, ◌≤◌, ◌∙◌, List, Err, ap, subst, length}
use Rattle.nxt_edge.proofs.Laws.{Consumes-longer}
use Rattle.nxt_tool.specs.Accepted.{IsDescribed, IsRefused, HasCause}
use Rattle.nxt_tool.specs.Due.{refused_answer, described_answer, Meets}
use Rattle.nxt_tool.specs.declared.fault.AcceptFault.TheVariants.{Refused}
use Rattle.nxt_tool.proofs.Reports.Statuses.{long_list, read_is, refused_description, due_description, unread_description, no_memory_description}
use Rattle.nxt_tool.proofs.entry.describe_file.Goals as goal

pub returns-in-Err-clause-told : goal.returns-in-Err-clause-told
returns-in-Err-clause-told g c = λ b bytes program.
    rw c.of_read.ensures (unread_description c.args.description c.in-Err.fault b _ bytes (λ large.
    let taken = c.in-Err.ensures.too_large (ap (λ (x : _). Err x) large) in
    long_list _ b 262144 program (Consumes-longer _ _ 262144 taken.0 taken.1 taken.2)))

pub returns-in-Ok-describe-clause-told : goal.returns-in-Ok-describe-clause-told
returns-in-Ok-describe-clause-told g c = λ b bytes program.
    let d = c.args.description in
    let text = c.in-Ok-describe.text in
    let same : c.in-Ok.bytes ≡ b = read_is _ b _ program c.in-Ok.ensures.all in
    let few : length b ≤ 262144 = subst (λ (l : List ℕ). length l ≤ 262144) same c.in-Ok.ensures.within in
    let told : IsDescribed d b text = subst (λ (l : List ℕ). IsDescribed d l text) (c.as_slice.ensures ∙ same) c.in-Ok-describe.ensures in
    (described_answer text, due_description d b text few told, subst (λ (t : List ℕ). Meets c.tell.result (described_answer t) (g.R.Sink.written c.args.report.now) (g.R.Sink.written c.tell.new.report)) c.as_slice-in-Ok-describe.ensures c.tell.ensures.told)

pub returns-in-Err-NoMemory-clause-told : goal.returns-in-Err-NoMemory-clause-told
returns-in-Err-NoMemory-clause-told g c = λ b bytes program. no_memory_description c.args.description b _ bytes

pub returns-clause-told : goal.returns-clause-told
returns-clause-told g c = λ b bytes program.
    let d = c.args.description in
    let refusal = c.in-Err-Refused.refusal in
    let same : c.in-Ok.bytes ≡ b = read_is _ b _ program c.in-Ok.ensures.all in
    let few : length b ≤ 262144 = subst (λ (l : List ℕ). length l ≤ 262144) same c.in-Ok.ensures.within in
    let cause : HasCause c.as_slice.result.now (Refused refusal) = rw c.in-Err-Refused.field-0-is at c.in-Err-Refused.ensures in
    let broken : IsRefused b refusal = subst (λ (l : List ℕ). IsRefused l refusal) (c.as_slice.ensures ∙ same) cause in
    (refused_answer refusal, refused_description d b refusal few broken, c.refuse.ensures.told)
