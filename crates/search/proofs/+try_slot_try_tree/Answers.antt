use Rattle.std.proofs.Common.{arith, sym, ◌∙◌, get_or, set, ◌≡◌, ◌+◌, ◌*◌, List, ℕ, true, ◌<◌, ◌||◌, eqb}
use Rattle.bits.specs.Bit.{bit}
use Rattle.graph.specs.CountLaws.{count_within}
use Rattle.search.specs.Board.{Ready}
use Rattle.search.specs.SlotSteps.{taken_fewer, Entered, reach_ready, slot_ends, slot_leads}
use Rattle.search.specs.TreeSteps.{picked, passing_start, passing_ready, passing_end, passing_less, passing_turn}
use Rattle.search.proofs.+try_slot_try_tree.Goals as goal

-- The slot's own tree rank is marked.
entered :
    (t k live : ℕ) (words links : List ℕ) (seen : ℕ) → (k < 64) × (bit live k ≡ true) × Ready t words links
    → ((j : ℕ) → bit seen j ≡ (bit (get_or words 64 0) j || eqb (get_or links k 0) j)) → Entered t k live words links seen
entered t k live words links seen needs marked = record { ready = needs.2; slot = needs.0; on = needs.1; marked = marked }

pub try_slot-returns-then-has : goal.try_slot-returns-then-has
try_slot-returns-then-has t c =
    let a = c.args in
    let en = entered a.t.0 a.k.0 a.live a.words.now a.links.now c.with.result c.requires c.with.ensures in
    slot_ends a.t.0 a.k.0 a.live a.words.now a.links.now c.with.result en (sym c.has.ensures ∙ c.if-has.true)

pub try_slot-returns-then-both-eq0 : goal.try_slot-returns-then-both-eq0
try_slot-returns-then-both-eq0 t c =
    let a = c.args in
    let en = entered a.t.0 a.k.0 a.live a.words.now a.links.now c.with.result c.requires c.with.ensures in
    let o = c.without-left in
    let u = get_or a.links.now a.k.0 0 in
    let words = set a.words.now 64 c.with.result in
    let links = set a.links.now (64 + u) (64 * a.k.0 + a.t.0) in
    let r = reach_ready a.t.0 a.k.0 a.live a.words.now a.links.now c.with.result en in
    slot_leads a.t.0 a.k.0 a.live a.words.now a.links.now c.with.result en o.result o.ensures
    (sym c.has.ensures ∙ c.if-has.false) words links o.result
    (passing_end u words links r o.result words links o.result (passing_start u words links r o.result) c.both.result c.both.ensures
    c.if-both-eq0.true)

pub try_slot-try_tree-requires : goal.try_slot-try_tree-requires
try_slot-try_tree-requires t c =
    let a = c.args in
    let en = entered a.t.0 a.k.0 a.live a.words.now a.links.now c.with.result c.requires c.with.ensures in
    let o = c.without-left in (
      omega (arith, c.decreases, taken_fewer (bit a.live) (bit o.result) a.k.0 o.ensures en.slot en.on),
      reach_ready a.t.0 a.k.0 a.live a.words.now a.links.now c.with.result en,
    )

pub try_slot-returns : goal.try_slot-returns
try_slot-returns t c =
    let a = c.args in
    let en = entered a.t.0 a.k.0 a.live a.words.now a.links.now c.with.result c.requires c.with.ensures in
    let o = c.without-left in
    let r = c.try_tree in
    slot_leads a.t.0 a.k.0 a.live a.words.now a.links.now c.with.result en o.result o.ensures
    (sym c.has.ensures ∙ c.if-has.false) r.new.words r.new.links r.result r.ensures

pub try_tree-returns-then-over-eq0 : goal.try_tree-returns-then-over-eq0
try_tree-returns-then-over-eq0 t c =
    let a = c.args in
    let l = c.loop-t in
    passing_end a.t.0 a.words.now a.links.now c.requires a.live l.words l.links l.left l.invariant c.both-over.result
    c.both-over.ensures c.if-over-eq0.true

pub try_tree-try_slot-left-requires : goal.try_tree-try_slot-left-requires
try_tree-try_slot-left-requires t c =
    let a = c.args in
    let l = c.loop-t in
    let o = c.both-over in
    let pick =
    picked a.t.0 l.words l.left o.result o.ensures c.if-over-eq0.false o.type_inv c.highest.result c.highest.ensures
    in (
      omega (arith, c.decreases, count_within 64 (bit l.left) (bit a.live) (λ j _. l.invariant.falls j)),
      (
        pick.within,
        pick.on,
        passing_ready a.t.0 a.words.now a.links.now c.requires a.live l.words l.links l.left l.invariant,
      ),
    )

pub try_tree-loop-t-smaller : goal.try_tree-loop-t-smaller
try_tree-loop-t-smaller t c =
    let a = c.args in
    let l = c.loop-t in
    let o = c.both-over in
    let r = c.try_slot-left in
    passing_less a.t.0 a.words.now a.links.now c.requires a.live l.words l.links l.left l.invariant c.highest.result
    (picked a.t.0 l.words l.left o.result o.ensures c.if-over-eq0.false o.type_inv c.highest.result c.highest.ensures)
    r.new.words r.new.links r.result r.ensures

pub try_tree-loop-t-preserved : goal.try_tree-loop-t-preserved
try_tree-loop-t-preserved t c =
    let a = c.args in
    let l = c.loop-t in
    let o = c.both-over in
    let r = c.try_slot-left in
    passing_turn a.t.0 a.words.now a.links.now c.requires a.live l.words l.links l.left l.invariant c.highest.result
    (picked a.t.0 l.words l.left o.result o.ensures c.if-over-eq0.false o.type_inv c.highest.result c.highest.ensures)
    r.new.words r.new.links r.result r.ensures
