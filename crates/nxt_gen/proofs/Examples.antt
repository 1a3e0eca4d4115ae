-- The first draws of the number 7, and the statements that they give.
use Rattle.std.proofs.Common.{◌≡◌, refl}
use Rattle.std.specs.Prelude.{codes}
use Rattle.std.specs.Fmt.{digits}
use Rattle.nxt_gen.specs.Generator.{next_seed, statements_from}

first_seed : next_seed 7 ≡ 1025555898
first_seed = refl

two_rounds : statements_from 2 7
    ≡ codes "arrbuild a0, a2, 204\narrsize n, a0\nsetout OUT_A, Power, n, UpdateFlags, UF_UPDATE_SPEED\narrinit a1, 105, 1129\narrsize n, a1\nsetout OUT_A, Power, n, UpdateFlags, UF_UPDATE_SPEED\n"
unfolding digits
two_rounds = refl
