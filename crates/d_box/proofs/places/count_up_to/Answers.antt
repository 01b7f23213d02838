use Rattle.std.proofs.Common.{rules, int_le}
use Rattle.std.proofs.lemmas.List.Sorted.{IsPartitionPoint-from_clause}
use Rattle.d_box.proofs.PlaceFacts.{parted_up_to, place_up_to}
use Rattle.d_box.proofs.places.count_up_to.Goals as goal

pub returns-clause-place : goal.returns-clause-place
returns-clause-place c =
    place_up_to _ _ _
    (IsPartitionPoint-from_clause (λ z. int_le z c.args.power) _ _ c.partition_point.ensures.partitioned (parted_up_to _ c.args.power c.requires)
    (λ a r q k. search rules))
