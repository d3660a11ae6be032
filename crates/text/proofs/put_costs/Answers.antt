-- Three numbers, one behind the other.
use Rattle.std.proofs.Common.{arith, ◌++◌, length-append}
use Rattle.codec.specs.Numbers.{Put}
use Rattle.codec.specs.WritingLaws.{put_more, put_room}
use Rattle.text.specs.Text.{decimal, space}
use Rattle.text.proofs.TextLaws.{number_most}
use Rattle.text.proofs.put_costs.Goals as goal
use Rattle.text.proofs.put_costs.Goals.{After-put_number-q}

pub put_number-q-requires : goal.put_number-q-requires
put_number-q-requires c = put_room _ _ _ _ _ _ c.put_number-p.ensures (omega (arith, number_most c.args.e space))

-- The first two numbers are put.
two :
    (c : After-put_number-q) →
    Put c.args.out.now c.args.at ((decimal c.args.e ++ space) ++ (decimal c.args.old ++ space)) c.put_number-q.result c.put_number-q.new.out
two c = put_more _ _ _ _ _ _ _ _ c.put_number-p.ensures c.put_number-q.ensures.next c.put_number-q.ensures.area

pub put_number-requires : goal.put_number-requires
put_number-requires c =
    put_room _ _ _ _ _ _ (two (goal.at.put_number-requires c).After-put_number-q)
    (omega (
      arith,
      length-append (decimal c.args.e ++ space) (decimal c.args.old ++ space),
      number_most c.args.e space,
      number_most c.args.old space,
    ))

pub returns : goal.returns
returns c =
    put_more _ _ _ _ _ _ _ _ (two (goal.at.returns c).After-put_number-q) c.put_number.ensures.next c.put_number.ensures.area
