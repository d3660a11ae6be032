-- The number stands behind the word.
use Rattle.codec.specs.WritingLaws.{put_more}
use Rattle.text.proofs.put_word.Goals as goal

pub returns : goal.returns
returns c = put_more _ _ _ _ _ _ _ _ c.put-next.ensures c.put_number.ensures.next c.put_number.ensures.area
