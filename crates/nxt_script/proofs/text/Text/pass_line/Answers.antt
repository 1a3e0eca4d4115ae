use Rattle.std.proofs.Common.{◌≡◌, ◌+◌, ◌++◌, min, length, take, drop, sym, ap, ◌∙◌, refl, arith}
use Rattle.std.proofs.lemmas.List.{drop-drop}
use Rattle.std.specs.Prelude.{option_map}
use Rattle.csv.specs.Records.{fields_of}
use Rattle.nxt_script.specs.Rows.{Counts, listed_line, record_of, rows_from}
use Rattle.nxt_script.specs.Inside.{taken_by}
use Rattle.nxt_script.proofs.RowsLaw.{at_bytes}
use Rattle.nxt_script.proofs.Fronts.{rows_from-has, rows_from-over}
use Rattle.nxt_script.proofs.text.Text.pass_line.Goals as goal

pub returns-then-self-taken-gt-SCRIPT_BYTES-clause-err :
    goal.returns-then-self-taken-gt-SCRIPT_BYTES-clause-err
returns-then-self-taken-gt-SCRIPT_BYTES-clause-err c =
    let a = c.args.self.now in
    let k = c.args.end in
    let passed : c.self.inside.passed ≡ a.counts.bytes = ap (λ f. f.counts.bytes) c.self.view_is in
    let taken : c.min-taken.result ≡ taken_by k a.pending = c.min-taken.ensures ∙ ap (λ l. min (k + 1) (length l)) c.pending-pending.ensures.bytes in
    let over = c.if-self-taken-gt-SCRIPT_BYTES.true in
    let within = c.pending-pending.ensures.within in
    (refl, (λ more follows. rows_from-over a k c.requires more follows within (omega (arith, passed, taken, over))), (λ no. cc))

pub returns-clause-ok : goal.returns-clause-ok
returns-clause-ok c =
    let a = c.args.self.now in
    let k = c.args.end in
    let n = c.min-taken.result in
    let view = c.self.view_is in
    let bytes = c.pending-pending.ensures.bytes in
    let passed : c.self.inside.passed ≡ a.counts.bytes = ap (λ f. f.counts.bytes) view in
    let taken : n ≡ taken_by k a.pending = c.min-taken.ensures ∙ ap (λ l. min (k + 1) (length l)) bytes in
    let few = c.if-self-taken-gt-SCRIPT_BYTES.false in
    let counts : Counts = record { bytes = c.self.inside.passed + n; records = c.self.inside.rows; bytecodes = c.self.inside.bytecodes; dumps = c.self.inside.dumps } in
    let counts_are : counts ≡ at_bytes (a.counts.bytes + taken_by k a.pending) a.counts =
    ap (λ f. at_bytes (f.counts.bytes + n) f.counts) view ∙ ap (λ m. at_bytes (a.counts.bytes + m) a.counts) taken in
    let fields = option_map fields_of c.in_ok-found.found in
    let spelled : fields ≡ record_of (take k a.pending) = c.in_ok-found.ensures ∙ ap (λ l. record_of (take k l)) bytes in
    let rest = drop (c.self.inside.at + n) c.self.inside.taken in
    let rest_is : rest ≡ drop (taken_by k a.pending) a.pending =
    sym (drop-drop n c.self.inside.at c.self.inside.taken) ∙ (ap (λ f. drop n f.pending) view ∙ ap (λ m. drop m a.pending) taken) in
    record {
      spelled = spelled;
      pending = rest_is;
      bytes = omega (arith, passed, taken);
      records = ap (λ f. f.counts.records) view;
      ended = ap (λ f. f.ended) view;
      rows = λ more follows.
          rows_from-has a k c.requires more follows (omega (arith, passed, taken, few))
          ∙ (ap (λ l. listed_line (at_bytes (a.counts.bytes + taken_by k a.pending) a.counts) (record_of (take k a.pending)) (λ d. rows_from d (l ++ more))) (sym rest_is)
          ∙ (ap (λ o. listed_line (at_bytes (a.counts.bytes + taken_by k a.pending) a.counts) o (λ d. rows_from d (rest ++ more))) (sym spelled)
          ∙ ap (λ h. listed_line h fields (λ d. rows_from d (rest ++ more))) (sym counts_are)));
    }
