-- `answer::list_pairs` meets its contract: where a mate has a pair, the list has a place for it. Assumes nothing.
use Rattle.std.proofs.Common.{◌≡◌, ℕ, ◌+◌, ◌-◌, ◌<◌, ◌≤◌, List, length, take, get_or, arith, length-take, get_or-take}
use Rattle.std.proofs.Math.Decide.{dec_lt}
use Rattle.answer.specs.Contents.{mate_pairs, PairsListed}
use Rattle.answer.specs.ContentsLaws.{pair_stored, listed_start, listed_none, listed_room, listed_one}
use Rattle.answer.proofs.list_pairs.Goals as goal

-- One of the first mates, in front of which so many pairs are listed.
module _ (edges : ℕ) (mate : List ℕ) (e : ℕ) (l : e < length (take edges mate)) (n : ℕ) (ps : List ℕ)
    (listed : PairsListed (mate_pairs e mate) n ps) (most : length (mate_pairs edges mate) ≤ 64) where
  same : get_or (take edges mate) e 0 ≡ get_or mate e 0
  same = get_or-take edges mate e 0 (omega (arith, length-take edges mate))

  room : 0 < get_or (take edges mate) e 0 → n < 64
  room some = listed_room mate ps e n listed edges most (omega (arith, length-take edges mate)) (omega (arith, same))

  -- Whether it has a pair or not.
  turn :
      (n' : ℕ) (ps' : List ℕ)
      → (0 < get_or (take edges mate) e 0 → n' ≡ n + 1)
      → (0 < get_or (take edges mate) e 0 → ps' ≡ pair_stored ps n e (get_or (take edges mate) e 0 - 1))
      → (get_or (take edges mate) e 0 ≤ 0 → n' ≡ n)
      → (get_or (take edges mate) e 0 ≤ 0 → ps' ≡ ps)
      → PairsListed (mate_pairs (e + 1) mate) n' ps'
  turn n' ps' more stored less kept =
      elim (dec_lt 0 (get_or (take edges mate) e 0)) [
        | yes m ↦ rw (more m, stored m, same) (listed_one mate ps e n listed (omega (arith, m, same)) (room m))
        | no m ↦ rw (less (omega arith), kept (omega arith)) (listed_none mate ps e n listed (omega (arith, same)))
      ]

pub loop-e-init : goal.loop-e-init
loop-e-init c = listed_start c.args.mate.now _ c.requires.pairs_len

pub put_pair-requires : goal.put_pair-requires
put_pair-requires c =
    room c.args.edges c.args.mate.now _ c.loop-e-test.true _ _ c.loop-e.invariant c.requires.mate_len_bound (omega arith)

pub overflow_add-count : goal.overflow_add-count
overflow_add-count c =
    omega (arith, room c.args.edges c.args.mate.now _ c.loop-e-test.true _ _ c.loop-e.invariant c.requires.mate_len_bound (omega arith))

pub loop-e-preserved : goal.loop-e-preserved
loop-e-preserved c =
    turn c.args.edges c.args.mate.now _ c.loop-e-test.true _ _ c.loop-e.invariant c.requires.mate_len_bound _ _
    (λ some. grind arith) (λ some. grind arith) (λ none. grind arith) (λ none. grind arith)
