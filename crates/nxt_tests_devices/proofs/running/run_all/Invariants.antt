-- Fewer bytecodes are left.
use Rattle.nxt_tests_devices.proofs.running.run_all.Given as goal

abbrev pub decreases-loop-left : goal.decreases-loop-left
decreases-loop-left l = l.left
