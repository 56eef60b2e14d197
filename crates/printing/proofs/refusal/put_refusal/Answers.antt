-- `put_refusal` puts the parts of the line.
use Rattle.printing.proofs.Laws.Chains.{word_room, file-room, number-room, place-room, line-end-room, line-done}
use Rattle.printing.proofs.refusal.put_refusal.Goals as goal

pub put-after_word-requires : goal.put-after_word-requires
put-after_word-requires c = word_room _ _ _ _ c.requires

pub put-after_file-requires : goal.put-after_file-requires
put-after_file-requires c = file-room _ _ _ _ c.requires c.put-after_word.ensures

pub put_field-after_number-requires : goal.put_field-after_number-requires
put_field-after_number-requires c = number-room _ _ _ _ c.requires c.put-after_word.ensures c.put-after_file.ensures

pub put_field-after_place-requires : goal.put_field-after_place-requires
put_field-after_place-requires c = place-room _ _ _ _ c.requires c.put-after_word.ensures c.put-after_file.ensures c.put_field-after_number.ensures

pub put-requires : goal.put-requires
put-requires c = line-end-room _ _ _ _ c.requires c.put-after_word.ensures c.put-after_file.ensures c.put_field-after_number.ensures c.put_field-after_place.ensures

pub returns : goal.returns
returns c = line-done _ _ _ _ c.requires c.put-after_word.ensures c.put-after_file.ensures c.put_field-after_number.ensures c.put_field-after_place.ensures c.put.ensures
