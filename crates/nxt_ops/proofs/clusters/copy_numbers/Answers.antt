-- Number by number.
use Rattle.std.proofs.Common.{◌≡◌, ◌∙◌, subst, arith, w64, to_z-of_z}
use Rattle.nxt_space.specs.Variables.{shape_of, value_of, with_value}
use Rattle.nxt_space.proofs.Laws.Keeping.{table_same, table_then}
use Rattle.nxt_model.specs.Values.{stored}
use Rattle.nxt_ops.proofs.Memberwise.{Copies, is_cluster, from_cluster, copies_none, copies_next, copies_all, copied_does, member_small, numbers_stay}
use Rattle.nxt_ops.proofs.clusters.copy_numbers.Goals as goal

pub loop-k-init : goal.loop-k-init
loop-k-init c =
    let s = c.args.space.now in
    record {
      copies = copies_none s.vars c.args.dest c.args.source c.in-Some.count (is_cluster s.vars c.args.dest c.in-Some.count c.requires.dest c.in-Some.ensures) c.requires.sound;
      stays = table_same s;
    }

pub overflow_add-source-in-loop-k : goal.overflow_add-source-in-loop-k
overflow_add-source-in-loop-k c =
    let s = c.args.space.now.vars in
    let n = c.in-Some.count in
    let from = is_cluster s c.args.source n c.requires.source (from_cluster (shape_of s c.args.dest) (shape_of s c.args.source) n c.in-Some.ensures c.requires.fit) in
    record { fits = member_small s c.args.source n c.loop-k.k from c.requires.sound c.loop-k-test.true }

pub overflow_add-source : goal.overflow_add-source
overflow_add-source c =
    let s = c.args.space.now.vars in
    let n = c.in-Some.count in
    let from = is_cluster s c.args.source n c.requires.source (from_cluster (shape_of s c.args.dest) (shape_of s c.args.source) n c.in-Some.ensures c.requires.fit) in
    let small = member_small s c.args.source n c.loop-k.k from c.requires.sound c.loop-k-test.true in
    record { fits = omega (arith, small) }

pub overflow_add-dest-in-loop-k : goal.overflow_add-dest-in-loop-k
overflow_add-dest-in-loop-k c =
    let s = c.args.space.now.vars in
    let n = c.in-Some.count in
    record { fits = member_small s c.args.dest n c.loop-k.k (is_cluster s c.args.dest n c.requires.dest c.in-Some.ensures) c.requires.sound c.loop-k-test.true }

pub overflow_add-dest : goal.overflow_add-dest
overflow_add-dest c =
    let s = c.args.space.now.vars in
    let n = c.in-Some.count in
    let small = member_small s c.args.dest n c.loop-k.k (is_cluster s c.args.dest n c.requires.dest c.in-Some.ensures) c.requires.sound c.loop-k-test.true in
    record { fits = omega (arith, small) }

pub set-requires : goal.set-requires
set-requires c =
    let s = c.args.space.now.vars in
    let n = c.in-Some.count in
    numbers_stay s c.args.dest n c.loop-k.k (is_cluster s c.args.dest n c.requires.dest c.in-Some.ensures) c.args.source c.loop-k.space.vars c.loop-k.k c.loop-k.invariant.copies c.loop-k-test.true

pub loop-k-preserved : goal.loop-k-preserved
loop-k-preserved c =
    let s = c.args.space.now in
    let n = c.in-Some.count in
    let to = is_cluster s.vars c.args.dest n c.requires.dest c.in-Some.ensures in
    let from = is_cluster s.vars c.args.source n c.requires.source (from_cluster (shape_of s.vars c.args.dest) (shape_of s.vars c.args.source) n c.in-Some.ensures c.requires.fit) in
    record {
      copies = copies_next s.vars c.args.dest c.args.source n c.loop-k.k to from c.requires.sound c.loop-k.space.vars c.loop-k.invariant.copies c.loop-k-test.true _ c.set.new.self.vars (to_z-of_z {w = w64} {z = c.get-number.result} (record { sfits = c.get-number.type_inv }) ∙ c.get-number.ensures) c.set.ensures.value;
      stays = table_then s c.loop-k.space c.set.new.self c.loop-k.invariant.stays c.set.ensures.stays;
    }

pub returns-clause-copied : goal.returns-clause-copied
returns-clause-copied c did =
    let s = c.args.space.now in
    let n = c.in-Some.count in
    let to = is_cluster s.vars c.args.dest n c.requires.dest c.in-Some.ensures in
    let from = is_cluster s.vars c.args.source n c.requires.source (from_cluster (shape_of s.vars c.args.dest) (shape_of s.vars c.args.source) n c.in-Some.ensures c.requires.fit) in
    let all : c.loop-k.k ≡ n = omega (arith, c.loop-k-test.false, c.loop-k.auto.k-end) in
    copied_does s c.loop-k.space (with_value s.vars c.args.dest (stored (shape_of s.vars c.args.dest) (value_of s.vars c.args.source))) c.recall_sound.ensures
    (copies_all s.vars c.args.dest c.args.source n to from c.requires.sound c.loop-k.space.vars (subst (λ k. Copies s.vars c.args.dest c.args.source c.loop-k.space.vars k) all c.loop-k.invariant.copies))
