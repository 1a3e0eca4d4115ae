use Rattle.std.proofs.Common.{◌≡◌, ◌+◌, ◌++◌, drop, length, map, take}
use Rattle.std.specs.Prelude.{option_map}
use Rattle.csv.specs.Records.{fields_of}
use Rattle.nxt_script.specs.RowForms.{numbers_in}
use Rattle.nxt_script.proofs.Fields.{AreIn}
use Rattle.nxt_script.proofs.row.numbers.Given as goal

-- the numbers found so far and those of what is left make all of them
abbrev pub invariant-loop-i : goal.invariant-loop-i
invariant-loop-i g l = record {
  long : length l.found ≡ length l.ranges;
  value : option_map (λ zs. take l.i l.found ++ zs) (numbers_in (drop l.i (map (λ r. record { least = r.least; greatest = r.greatest }) l.ranges)) (drop (l.i + 1) (fields_of l.fields)))
      ≡ numbers_in (map (λ r. record { least = r.least; greatest = r.greatest }) l.ranges) (drop 1 (fields_of l.fields));
  within : AreIn (λ q. q.least) (λ q. q.greatest) l.ranges l.found l.i;
}
