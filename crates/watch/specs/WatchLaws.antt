-- Laws of packets heard over arrays, in the shape of the code: one packet, and the log so far. Assumes nothing.
use Rattle.std.specs.Prelude.{ℕ, suc, ◌+◌, ◌<◌, ◌≤◌, ◌≡◌, refl, ◌⊎◌, Bool, true, false, List, ◌∷◌, Some, None, length, get_or, set, drop}
use Rattle.std.proofs.Math.Decide.{dec_lt}
use Rattle.std.proofs.Common.{arith, sym, subst, ◌∙◌, inl, inr, ne_eqb, lt-ltb, le-ltb}
use Rattle.std.proofs.Math.Option.{none, map}
use Rattle.limits.specs.Limits.{max_number}
use Rattle.loops.specs.PutLaws.{put_own}
use Rattle.sheet.specs.Sheet.{InRange}
use Rattle.sheet.specs.Reading.{costs_at}
use Rattle.replay.specs.Log.{Packet, stepped, heard}
use Rattle.replay.specs.LogReading.{read_log}
use Rattle.replay.proofs.ReplayLaws.{heard_range}
use Rattle.replay.proofs.Hearing.{HeardTo, heard_more, heard_unread}
use Rattle.packets.specs.PacketLaws.{heard_set}
use Rattle.violations.specs.Counting.{StepOf}
use Rattle.watch.specs.Watching.{RangedCosts, Hears, none_at, Watched}

-- A step that is taken moves a cost by one.
by_one : (up : Bool) (x : ℕ) → (stepped up x ≡ x → ⊥) → (stepped up x ≡ suc x) ⊎ (x ≡ suc (stepped up x))
by_one true x n =
    elim (dec_lt x max_number) [
      | yes l ↦ rw (lt-ltb x max_number l) (inl refl)
      | no l ↦ absurd (n (rw (le-ltb x max_number (omega arith))))
    ]
by_one false x n = inr (omega (arith, n))

-- A packet of link e, whose cost is x, over an array of costs.
module _ (edges b e : ℕ) (ranks as₁ as₂ as₃ as₄ mask : List ℕ) (h : Hears edges b e ranks as₁ as₂ as₃ as₄ mask) (up : Bool) (new : ℕ)
    (step : new ≡ stepped up (get_or as₃ e 0)) where
  -- It stays where it is.
  pub still_costs : new ≡ get_or as₃ e 0 → costs_at as₃ ≡ heard (record { edge = e; up = up }) (costs_at as₃)
  still_costs same = sym (put_own (costs_at as₃) e _ (sym (sym step ∙ same)))

  -- It moves by one.
  pub step_of : (new ≡ get_or as₃ e 0 → ⊥) → StepOf edges b e (get_or as₃ e 0) new ranks as₁ as₂ as₃ as₄ mask
  step_of n =
      record {
        inside = h.inside;
        places = h.priced.places;
        from = refl;
        by_one = rw step (by_one up (get_or as₃ e 0) (λ q. n (step ∙ q)));
        before = h.before;
      }

  pub moved_costs : costs_at (set as₃ e new) ≡ heard (record { edge = e; up = up }) (costs_at as₃)
  moved_costs = heard_set as₃ e up new (omega (arith, h.inside, h.priced.few, h.priced.places)) step

-- ---- the log so far

-- An array of costs, after one packet more.
pub priced_more :
    (edges : ℕ) (cs cs' : List ℕ) (q : Packet) → RangedCosts edges cs → costs_at cs' ≡ heard q (costs_at cs) → length cs' ≡ 256 → q.edge < edges
    → RangedCosts edges cs'
priced_more edges cs cs' q p moved places inside =
    record { few = p.few; places = places; range = subst (InRange edges) (sym moved) (heard_range edges q (costs_at cs) inside p.range) }

-- The packets in front of a position have been heard, and v violations are left.
module _ {edges : ℕ} {s : List ℕ} (count : (ℕ → ℕ) → ℕ) {cs cs' : List ℕ} {at n v : ℕ}
    (h : HeardTo edges s (costs_at cs) (none_at count) at n (costs_at cs')) (left : v ≡ count (costs_at cs')) where
  pub watched_to :
      RangedCosts edges cs' → (v ≡ 0) ⊎ (length s ≤ at)
      → Watched edges s count cs (Some (record { count = n; at = at; violations = v })) cs'
  watched_to p e = record { so_far = record { heard = h; left = left; ends = e }; priced = p }

  pub watched_none : RangedCosts edges cs' → read_log edges (drop at s) ≡ none → Watched edges s count cs None cs'
  watched_none p e = record { so_far = heard_unread edges s (costs_at cs) (none_at count) at n (costs_at cs') h e; priced = p }

-- One packet more.
pub watched_more :
    (edges : ℕ) (s : List ℕ) (count : (ℕ → ℕ) → ℕ) (cs cs' cs'' : List ℕ) (at n v : ℕ)
    → HeardTo edges s (costs_at cs) (none_at count) at n (costs_at cs') → v ≡ count (costs_at cs')
    → (q : Packet) (next : ℕ) → costs_at cs'' ≡ heard q (costs_at cs') → (v ≡ 0 → ⊥) → at + 2 ≤ next → next ≤ length s
    → read_log edges (drop at s) ≡ map (q ∷◌) (read_log edges (drop next s))
    → HeardTo edges s (costs_at cs) (none_at count) next (n + 1) (costs_at cs'')
watched_more edges s count cs cs' cs'' at n v h left q next moved some far within rest =
    subst (HeardTo edges s (costs_at cs) (none_at count) next (n + 1)) (sym moved)
    (heard_more edges s (costs_at cs) (none_at count) at n (costs_at cs') h q next (ne_eqb _ 0 (λ e. some (left ∙ e))) far within rest)
