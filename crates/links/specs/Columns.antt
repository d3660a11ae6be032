-- Links in four arrays: the questions over them. Definitions only. Assumes nothing.
use Rattle.std.specs.Prelude.{ℕ, Bool, not, ◌&&◌, ◌≡◌, List, map, ltb, leb, eqb, length, get_or}
use Rattle.loops.specs.Below.{all_below}
use Rattle.limits.specs.Limits.{unplugged_mark}
use Rattle.frame.specs.Job.{JobLink}
use Rattle.frame.specs.Arrays.{Columns, link_at}
use Rattle.frame.specs.Questions.{ask}
use Rattle.frame.specs.Services.{small_numbers}

-- The four columns of a list of links.
abbrev pub firsts : List JobLink → List ℕ
firsts ls = map (λ (l : JobLink). l.end₁) ls

abbrev pub seconds : List JobLink → List ℕ
seconds ls = map (λ (l : JobLink). l.end₂) ls

abbrev pub costs : List JobLink → List ℕ
costs ls = map (λ (l : JobLink). l.cost) ls

abbrev pub marks : List JobLink → List ℕ
marks ls = map (λ (l : JobLink). l.mark) ls

-- Questions 4 and 5 over arrays.
abbrev pub ends_apart : ℕ → ℕ → ℕ → Bool
ends_apart n a b = ltb a n && ltb b n && not (eqb a b)

abbrev pub apart_at : ℕ → List ℕ → List ℕ → ℕ → Bool
apart_at n as₁ as₂ e = ends_apart n (get_or as₁ e 0) (get_or as₂ e 0)

abbrev pub ends_hold : ℕ → ℕ → List ℕ → List ℕ → Bool
ends_hold n m as₁ as₂ = all_below m (apart_at n as₁ as₂)

abbrev pub marked_at : List ℕ → ℕ → Bool
marked_at as₄ e = leb (get_or as₄ e 0) unplugged_mark

abbrev pub marks_hold : ℕ → List ℕ → Bool
marks_hold m as₄ = all_below m (marked_at as₄)

-- The first refusal of the two, or 0.
abbrev pub links_refusal : ℕ → ℕ → List ℕ → List ℕ → List ℕ → ℕ
links_refusal n m as₁ as₂ as₄ = ask (ends_hold n m as₁ as₂) 4 λ _. ask (marks_hold m as₄) 5 λ _. 0

-- Question 1 over arrays.
abbrev pub links_small : ℕ → Columns → Bool
links_small n c = all_below n λ e. small_numbers (link_at c e)

-- Four arrays of 256 places.
pub record Places (c : Columns) : Type 0 where
  pub end₁ : length c.end₁ ≡ 256
  pub end₂ : length c.end₂ ≡ 256
  pub cost : length c.cost ≡ 256
  pub mark : length c.mark ≡ 256
