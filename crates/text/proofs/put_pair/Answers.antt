-- The spare link stands behind the tree link.
use Rattle.std.proofs.Common.{arith, ◌++◌, length-append}
use Rattle.codec.specs.WritingLaws.{put_more, put_room}
use Rattle.text.specs.Text.{decimal, space, pair_word}
use Rattle.text.proofs.TextLaws.{number_most}
use Rattle.text.proofs.put_pair.Goals as goal

pub put_number-requires : goal.put_number-requires
put_number-requires c =
    put_room _ _ _ _ _ _ c.put_word-next.ensures
    (omega (arith, length-append pair_word (decimal c.args.tree ++ space), number_most c.args.tree space))

pub returns : goal.returns
returns c = put_more _ _ _ _ _ _ _ _ c.put_word-next.ensures c.put_number.ensures.next c.put_number.ensures.area
