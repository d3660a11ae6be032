-- Laws of numbers in groups: one group more, a group of a job by the test of the code, and that all of them are its frame.
-- Assumes nothing.
use Prim.Native.Nat.{ℕ, zero, suc, ◌+◌, ◌-◌, ◌≤◌}
use Rattle.std.proofs.Math.Numerals.{add-one}
use native.Mathlib.Omega.{arith}
use Rattle.std.specs.Prelude.{◌≡◌, length}
use Rattle.std.proofs.Math.Path.{refl}
use Rattle.std.proofs.Common.{ap, ◌∙◌, length-append}
use mathlib.Core.List.{List, [], ◌∷◌, ◌++◌, flat_map}
use Rattle.loops.specs.Loop.{gather}
use Rattle.limits.specs.Limits.{number_bytes}
use Rattle.number.specs.Number.{encode}
use Rattle.frame.specs.Job.{fields, bytes_of, job_frame}
use Rattle.frame.proofs.RoundTrip.{flat_map_append}
use Rattle.frame.specs.Arrays.{Columns, link_at, links_at, job_at}
use Rattle.codec.specs.Numbers.{numbers_at}
use Rattle.codec.specs.ListLaws.{gather_within}
use Rattle.links.specs.ColumnLaws.{rows_length}
use Rattle.job_write.specs.Groups.{groups_bytes, group}

module _ (f : ℕ → List ℕ) where
  -- One group more.
  module _ (i : ℕ) (ns : List ℕ) (is : ns ≡ f i) where
    pub groups_more : groups_bytes f (i + 1) ≡ groups_bytes f i ++ bytes_of ns
    unfolding gather
    groups_more = rw (is, add-one i) (flat_map_append (encode number_bytes) (gather i f) (f i))

    pub groups_size : length (groups_bytes f (i + 1)) ≡ length (groups_bytes f i) + length (bytes_of ns)
    groups_size = ap length groups_more ∙ length-append (groups_bytes f i) (bytes_of ns)

  pub groups_within : (i n : ℕ) → i ≤ n → length (groups_bytes f i) ≤ length (groups_bytes f n)
  groups_within = gather_within bytes_of f (λ i. omega (arith, groups_size i (f i) refl))

module _ (nodes edges : ℕ) (c : Columns) where
  -- A group, by the test of the code.
  pub group_counts : (i : ℕ) → i ≡ 0 → numbers_at 2 (nodes ∷ edges ∷ 0 ∷ 0 ∷ []) ≡ group nodes edges c i
  unfolding gather group
  group_counts i z = rw z

  pub group_link : (i : ℕ) → (i ≡ 0 → ⊥) → (four : List ℕ) → four ≡ fields (link_at c (i - 1)) → numbers_at 4 four ≡ group nodes edges c i
  unfolding gather group
  group_link zero n four is = absurd (n refl)
  group_link (suc e) n four is =
      let same : suc e - 1 ≡ e = omega arith in
      rw (is, same)

  -- All groups are the frame.
  links_grouped : (e : ℕ) → gather (e + 1) (group nodes edges c) ≡ nodes ∷ edges ∷ flat_map fields (links_at e c)
  unfolding gather flat_map group
  links_grouped zero = refl
  links_grouped (suc e) =
      rw (add-one (suc e), flat_map_append fields (links_at e c) (link_at c e ∷ []))
      (ap (λ (ns : List ℕ). ns ++ fields (link_at c e)) (rw add-one at (links_grouped e)))

  pub frame_grouped : groups_bytes (group nodes edges c) (edges + 1) ≡ job_frame (job_at nodes edges c)
  frame_grouped = ap bytes_of (links_grouped edges) ∙ rw (rows_length edges c)
