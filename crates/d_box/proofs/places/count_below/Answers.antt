use Rattle.std.proofs.Common.{rules, int_lt}
use Rattle.std.proofs.lemmas.List.Sorted.{IsPartitionPoint-from_clause}
use Rattle.d_box.proofs.PlaceFacts.{parted_below, place_below}
use Rattle.d_box.proofs.places.count_below.Goals as goal

pub returns-clause-place : goal.returns-clause-place
returns-clause-place c =
    place_below _ _ _
    (IsPartitionPoint-from_clause (λ z. int_lt z c.args.power) _ _ c.partition_point.ensures.partitioned (parted_below _ c.args.power c.requires)
    (λ a r q k. search rules))
