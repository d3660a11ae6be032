-- What the reader hands back, written again, is the frame; what the writer puts into an area reads as the links that were
-- written. Assumes nothing.
use Rattle.std.specs.Prelude.{ℕ, ◌+◌, ◌<◌, ◌≤◌, ◌≡◌, refl, List, length, get_or, take, drop}
use Rattle.std.proofs.Common.{arith, sym, ap, ◌∙◌, take_at, ext_get_or}
use Rattle.std.proofs.lemmas.List.Edits.{sets, sets-eq}
use Rattle.loops.specs.GatherLaws.{get_d_tabulate}
use Rattle.number.specs.Number.{Bytes}
use Rattle.frame.specs.Job.{JobLink, no_link, job_frame}
use Rattle.frame.specs.Questions.{job_of, form_refusal, layout_refusal, list_layout_refusal}
use Rattle.frame.proofs.RoundTrip.{links_few, write_read}
use Rattle.frame.proofs.Lists.{layout_as_frame, layout_listed, list_read}
use Rattle.frame.specs.Arrays.{Columns, link_at, links_at, job_at}
use Rattle.links.specs.Columns.{Places}
use Rattle.links.specs.ColumnLaws.{column, rows_length}
use Rattle.job.specs.Reading.{filled, header_of, Laid}

-- Links put into arrays are the arrays' links.
module _ (ls : List JobLink) (c : Columns) (p : Places c) (few : length ls ≤ 256) where
  put_is : (e : ℕ) → e < length ls → link_at (filled ls 0 c) e ≡ get_or ls e no_link
  put_is e l i =
      record {
        end₁ = column (λ (l : JobLink). l.end₁) refl ls c.end₁ e (omega (arith, p.end₁)) l i;
        end₂ = column (λ (l : JobLink). l.end₂) refl ls c.end₂ e (omega (arith, p.end₂)) l i;
        cost = column (λ (l : JobLink). l.cost) refl ls c.cost e (omega (arith, p.cost)) l i;
        mark = column (λ (l : JobLink). l.mark) refl ls c.mark e (omega (arith, p.mark)) l i;
      }

  pub rows_filled : links_at (length ls) (filled ls 0 c) ≡ ls
  rows_filled =
      ext_get_or no_link (links_at (length ls) (filled ls 0 c)) ls (rows_length (length ls) (filled ls 0 c))
      λ i l.
      let m : i < length ls = omega (arith, rows_length (length ls) (filled ls 0 c)) in
      get_d_tabulate (link_at (filled ls 0 c)) (length ls) i no_link m ∙ put_is i m

-- A frame that passes questions 1 to 5, read into arrays of 256 places and written again, is the same bytes.
pub frame_again :
    (s : List ℕ) (c : Columns) → Bytes s → form_refusal s ≡ 0 → Places c →
    job_frame (job_at (job_of s).nodes (length (job_of s).links) (filled (job_of s).links 0 c)) ≡ s
frame_again s c b z p =
    ap (λ (ls : List JobLink). job_frame (record { nodes = (job_of s).nodes; links = ls })) (rows_filled (job_of s).links c p (links_few s b z)) ∙
    write_read s b z

front : (vs area : List ℕ) → length vs ≤ length area → take (length vs) (sets area 0 vs) ≡ vs
front vs area room = rw (sets-eq vs area 0 (omega arith)) (take_at vs (drop (0 + length vs) area) (length vs) refl)

-- Links in arrays that pass questions 1 and 2 are read back from the bytes that were written, wherever they were put.
pub links_again :
    (nodes edges : ℕ) (c : Columns) (area : List ℕ) →
    let j = job_at nodes edges c in
    list_layout_refusal j ≡ 0 →
    length (job_frame j) ≤ length area →
    Laid (take (length (job_frame j)) (sets area 0 (job_frame j))) (header_of j)
links_again nodes edges c area z room =
    let j = job_at nodes edges c in
    let bytes : take (length (job_frame j)) (sets area 0 (job_frame j)) ≡ job_frame j = front (job_frame j) area room in
    let y = (layout_listed j z).0 in
    record {
      passed = ap layout_refusal bytes ∙ sym (layout_as_frame j y) ∙ z;
      counts = sym (ap (λ (s : List ℕ). header_of (job_of s)) bytes ∙ ap header_of (list_read j y));
    }
