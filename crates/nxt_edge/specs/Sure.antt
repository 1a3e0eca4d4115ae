-- What a source that never fails has left, and what a sink that never fails has counted.
use Rattle.std.specs.Prelude.{ℕ, List, drop}
use Rattle.nxt_edge.specs.declared.mem.SureSource.{SureSource}
use Rattle.nxt_edge.specs.declared.mem.SureSink.{SureSink}

abbrev pub sure_left : SureSource → List ℕ
sure_left s = drop s.at s.bytes.items

abbrev pub sure_count : SureSink → ℕ
sure_count s = s.count
