use Rattle.std.proofs.Common.{◌≡◌, ◌++◌, length, map, take}
use Rattle.nxt_model.specs.Nbc.Header.{header_structs, struct_behind}
use Rattle.nxt_nbc_names.specs.Structs.{RisesTo}
use Rattle.nxt_nbc_names.proofs.structs.StructTable.push_header.Given as goal

-- the structs so far stand behind those that were there
abbrev pub invariant-loop-at : goal.invariant-loop-at
invariant-loop-at l = record {
  types :
      l.self
      ≡ record l.fn.self { structs = l.fn.self.structs ++ map (struct_behind (length l.fn.self.structs) l.line) (take l.at header_structs) };
  rises : RisesTo 0 l.line l.self.structs;
}
