-- What a source and a sink in memory hold.
use Rattle.std.specs.Prelude.{ℕ, List, drop}
use Rattle.nxt_edge.specs.declared.mem.MemSource.{MemSource}
use Rattle.nxt_edge.specs.declared.mem.MemSink.{MemSink}

abbrev pub source_left : MemSource → List ℕ
source_left s = drop s.at s.bytes.items

abbrev pub source_faults : MemSource → ℕ
source_faults s = s.faults

-- the number of the next call
abbrev pub source_calls : MemSource → ℕ
source_calls s = s.calls

abbrev pub source_chunk : MemSource → ℕ
source_chunk s = s.chunk

-- the numbers of the calls that fail
abbrev pub source_failing : MemSource → List ℕ
source_failing s = s.failing.items

abbrev pub sink_bytes : MemSink → List ℕ
sink_bytes s = s.bytes.items

abbrev pub sink_faults : MemSink → ℕ
sink_faults s = s.faults

abbrev pub sink_calls : MemSink → ℕ
sink_calls s = s.calls

abbrev pub sink_chunk : MemSink → ℕ
sink_chunk s = s.chunk

abbrev pub sink_failing : MemSink → List ℕ
sink_failing s = s.failing.items
