-- Each pass stores the numbers of one end; lists of other lengths are left as they are.
use Rattle.count_augmentation.proofs.Laws.Places.{numbers-stored}
use borrow.Author.Rules.{rules}
use Rattle.count_augmentation.proofs.storing.store.Goals as goal

pub returns : goal.returns
returns c = record { near_first_len_unchanged = (search rules, search rules); numbers_stored = λ rising first_room_of second_room_of few p on_edge. numbers-stored p _ _ _ on_edge (c.store_first.ensures rising) (c.store_second.ensures rising) }
