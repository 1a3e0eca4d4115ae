-- The program's labels, as the definitions see them.
use Rattle.nxt_model.specs.Nbc.Text.{LabelAt}
use Rattle.nxt_nbc_names.specs.declared.labels.Label.{Label as ProgramLabel}

abbrev pub label_seen : ProgramLabel → LabelAt
label_seen l = record { name = l.name.now; line = l.line; position = l.position }
