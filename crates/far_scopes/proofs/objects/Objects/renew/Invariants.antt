use Rattle.std.proofs.Common.{◌≡◌, ◌≤◌, ◌+◌, ◌++◌, length}
use Rattle.std.specs.Iterator.Adapters.{zip_first, zip_second}
use Rattle.std.specs.Vec.{vec_capacity}
use Rattle.std.specs.Vec.Iter.{into_iter_items, into_iter_len}
use Rattle.far_scopes.proofs.RenewalLaws.{records-renewed}
use Rattle.far_scopes.proofs.objects.Objects.renew.Given as goal

abbrev pub invariant-loop-object_record : goal.invariant-loop-object_record
invariant-loop-object_record g l =
    let olds = zip_first l.object_record-iterator in
    let tickets = zip_second l.object_record-iterator in
    (l.records.items ++ records-renewed (into_iter_items olds) (into_iter_items tickets) ≡ records-renewed l.fn.self.records l.fn.renewal)
    × (length l.records.items + length (into_iter_items olds) ≤ vec_capacity l.records)
    × (length (into_iter_items olds) ≡ length (into_iter_items tickets))
    × (into_iter_len olds ≡ length (into_iter_items olds))
    × (into_iter_len tickets ≡ length (into_iter_items tickets))
