-- What a text declares, as the definitions see it.
use Rattle.nxt_model.specs.Nbc.Text.{Source}
use Rattle.nxt_nbc_names.specs.declared.source.Source.{Source as ProgramSource}

abbrev pub source_seen : ProgramSource → Source
source_seen s =
    record { included = s.structs.included; types = s.structs.structs; vars = s.variables; blocks = s.blocks; names = s.names }
