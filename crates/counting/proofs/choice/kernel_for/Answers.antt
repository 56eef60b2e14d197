-- Each method by its name.
use Rattle.counting.specs.Kernels.{to_range_query, to_count_augmentation, to_neighbor_sharing, to_any, by_range_query, by_count_augmentation, by_neighbor_sharing}
use Rattle.counting.proofs.choice.kernel_for.Goals as goal

pub returns-in-RangeQuery : goal.returns-in-RangeQuery
returns-in-RangeQuery c = record { leads = rw c.in-RangeQuery.is to_range_query; right = λ up ladder. by_range_query }

pub returns-in-CountAugmentation : goal.returns-in-CountAugmentation
returns-in-CountAugmentation c = record { leads = rw c.in-CountAugmentation.is to_count_augmentation; right = λ up ladder. by_count_augmentation }

pub returns-in-NeighborSharing : goal.returns-in-NeighborSharing
returns-in-NeighborSharing c = record { leads = rw c.in-NeighborSharing.is to_neighbor_sharing; right = λ up ladder. by_neighbor_sharing }

pub returns-in-Cheapest : goal.returns-in-Cheapest
returns-in-Cheapest c = record { leads = rw c.in-Cheapest.is (to_any _); right = c.cheapest.ensures }
