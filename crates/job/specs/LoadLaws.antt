-- The link reader reads what the frame's part divides into: its links stand in the arrays, and the position behind the
-- last one is the part's end. Assumes nothing.
use Rattle.std.specs.Prelude.{ℕ, zero, suc, ◌+◌, ◌-◌, ◌<◌, ◌≤◌, ◌*◌, ◌≡◌, Some, length, drop}
use Rattle.std.proofs.Common.{arith, sym, ap, ◌∙◌, length-drop}
use mathlib.Core.List.{List, [], ◌∷◌, flat_map}
use Rattle.loops.specs.Loop.{scan}
use Rattle.loops.specs.ScanLaws.{scan_turn}
use Rattle.leb128.specs.Positions.{read_at}
use Rattle.leb128.specs.declared.Number.{Number}
use Rattle.limits.specs.Limits.{number_bytes}
use Rattle.frame.specs.Meaning.{links_of, Divides}
use Rattle.job.specs.Reading.{LinksLoaded, links_loaded, link_put, load_link, filled}
use Rattle.codec.specs.NumberLaws.{taken_value, next_number}

-- One turn of the loop that reads links.
pub load_turn :
    (s : List ℕ) (n e : ℕ) (l whole : LinksLoaded) →
    scan (load_link s) (n - e) e l ≡ whole →
    e < n →
    (a b c k : Number) →
    read_at number_bytes s l.at ≡ Some a →
    read_at number_bytes s a.next ≡ Some b →
    read_at number_bytes s b.next ≡ Some c →
    read_at number_bytes s c.next ≡ Some k →
    scan (load_link s) (n - (e + 1)) (e + 1) (links_loaded k.next (link_put e a.value b.value c.value k.value l.links)) ≡ whole
unfolding load_link
load_turn s n e l whole q h a b c k e₁ e₂ e₃ e₄ =
    let link : load_link s e l ≡ links_loaded k.next (link_put e a.value b.value c.value k.value l.links) =
    rw (taken_value s l.at a e₁, taken_value s a.next b e₂, taken_value s b.next c e₃, taken_value s c.next k e₄) in
    ap (scan (load_link s) (n - (e + 1)) (e + 1)) (sym link) ∙ sym (scan_turn (load_link s) n e l h) ∙ q

load_step :
    (s ns : List ℕ) (a b c k i : ℕ) (l : LinksLoaded) →
    l.at ≤ length s →
    Divides (drop l.at s) (a ∷ b ∷ c ∷ k ∷ ns) →
    (at : ℕ) × (at ≤ length s) × Divides (drop at s) ns × (load_link s i l ≡ links_loaded at (link_put i a b c k l.links))
unfolding load_link
load_step s ns a b c k i l h d =
    let n₁ = next_number s (b ∷ c ∷ k ∷ ns) a l.at h d in
    let n₂ = next_number s (c ∷ k ∷ ns) b n₁.next n₁.within n₁.rest in
    let n₃ = next_number s (k ∷ ns) c n₂.next n₂.within n₂.rest in
    let n₄ = next_number s ns k n₃.next n₃.within n₃.rest in
    (n₄.next, n₄.within, n₄.rest, rw (n₁.here, n₂.here, n₃.here, n₄.here))

pub load_all :
    (s : List ℕ) (m i : ℕ) (ns : List ℕ) (l : LinksLoaded) →
    length ns ≡ 4 * m →
    l.at ≤ length s →
    Divides (drop l.at s) ns →
    scan (load_link s) m i l ≡ links_loaded (length s) (filled (links_of ns) i l.links)
unfolding scan links_of flat_map
load_all s zero i [] l e h d =
    let last : l.at ≡ length s = omega (arith, ap length d.joined, length-drop l.at s) in
    ap (λ (at : ℕ). links_loaded at l.links) last
load_all s zero i (a ∷ ns) l e h d = absurd (omega arith)
load_all s (suc m) i [] l e h d = absurd (omega arith)
load_all s (suc m) i (a ∷ []) l e h d = absurd (omega arith)
load_all s (suc m) i (a ∷ b ∷ []) l e h d = absurd (omega arith)
load_all s (suc m) i (a ∷ b ∷ c ∷ []) l e h d = absurd (omega arith)
load_all s (suc m) i (a ∷ b ∷ c ∷ k ∷ ns) l e h d =
    let (at, within, rest, q) = load_step s ns a b c k i l h d in
    rw q (load_all s m (suc i) ns (links_loaded at (link_put i a b c k l.links)) (omega arith) within rest)
