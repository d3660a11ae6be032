-- What the functions that read a job frame compute. Definitions only. Assumes nothing.
use Rattle.std.specs.Prelude.{ℕ, ◌≡◌, List, Result, Ok, Err, IfOk, length, set, take}
use Rattle.std.proofs.Math.Option.{Option, some, none}
use Rattle.std.proofs.lemmas.List.Edits.{sets}
use Rattle.loops.specs.Loop.{scan}
use Rattle.loops.specs.Below.{choose}
use Rattle.frame.specs.Job.{JobLink, Job, bytes_of}
use Rattle.frame.specs.Meaning.{node_count, edge_count}
use Rattle.frame.specs.Questions.{job_of, question2, question3, layout_refusal}
use Rattle.leb128.specs.declared.Number.{Number}
use Rattle.limits.specs.declared.Refusal.{Refusal}
use Rattle.limits.specs.declared.Refusal.TheVariants.{Numbers, Counts as OutOfRange, Length}
use Rattle.limits.specs.Refusals.{refusal_in}
use Rattle.job.specs.declared.Counts.{Counts}
use Rattle.job.specs.declared.Header.{Header}
use Rattle.codec.specs.Numbers.{taken_at}
use Rattle.frame.specs.Arrays.{Columns, columns}
use Rattle.links.specs.Columns.{firsts, seconds, costs, marks}

-- The links in arrays, and the position behind the last link read.
pub record LinksLoaded : Type 0 where
  pub at : ℕ
  pub links : Columns

abbrev pub links_loaded : ℕ → Columns → LinksLoaded
links_loaded at c = record { at = at; links = c }

-- A link's four numbers put into place e of the arrays; a list of links put there, the first at place e.
abbrev pub link_put : ℕ → ℕ → ℕ → ℕ → ℕ → Columns → Columns
link_put e a b k m c = columns (set c.end₁ e a) (set c.end₂ e b) (set c.cost e k) (set c.mark e m)

abbrev pub filled : List JobLink → ℕ → Columns → Columns
filled ls e c = columns (sets c.end₁ e (firsts ls)) (sets c.end₂ e (seconds ls)) (sets c.cost e (costs ls)) (sets c.mark e (marks ls))

-- Link e read into its place; the links of a frame's part behind the two counts.
unfoldable pub load_link : List ℕ → ℕ → LinksLoaded → LinksLoaded
load_link s e l =
    let a : Number = taken_at s l.at in
    let b : Number = taken_at s a.next in
    let c : Number = taken_at s b.next in
    let m : Number = taken_at s c.next in
    links_loaded m.next (link_put e a.value b.value c.value m.value l.links)

abbrev pub load_links : List ℕ → ℕ → LinksLoaded → LinksLoaded
load_links s n l = scan (load_link s) n 0 l

-- Questions 1 to 3: the refusal, or the two counts and the position behind them.
unfoldable pub counts_of : Option (List ℕ) → Result Counts Refusal
counts_of none = Err Numbers
counts_of (some ns) =
    choose (question2 ns)
    (λ _. choose (question3 ns)
    (λ _. Ok (record { nodes = node_count ns; edges = edge_count ns; behind = length (bytes_of (take 2 ns)) }))
    (λ _. Err Length))
    (λ _. Err OutOfRange)

-- The two counts of a job.
abbrev pub header_of : Job → Header
header_of j = record { nodes = j.nodes; edges = length j.links }

-- A reader of the job j, to which the first "no" is number n, or 0: it tells that number, and without a refusal the two counts.
pub record Headed (n : ℕ) (j : Job) (r : Result Header Refusal) : Type 0 where
  pub number : refusal_in r ≡ n
  pub counts : IfOk r (λ h. h ≡ header_of j)

-- The frame s passes questions 1 to 3, and its counts are these.
pub record Laid (s : List ℕ) (h : Header) : Type 0 where
  pub passed : layout_refusal s ≡ 0
  pub counts : h ≡ header_of (job_of s)
