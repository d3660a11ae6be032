-- The links of four arrays gathered as records; what is read of a job frame is its job. Assumes nothing.
use Rattle.std.specs.Prelude.{ℕ, zero, suc, ◌+◌, ◌<◌, ◌≤◌, min, ◌≡◌, refl, List, [], ◌∷◌, Ok, Err, map, length, get_or, set, take, replicate}
use Rattle.std.proofs.Math.Nat.{suc-sub-suc}
use Rattle.std.proofs.Common.{arith, sym, ap, ◌∙◌, ext_get_or}
use Rattle.std.proofs.Math.ListN.{get_or-map}
use Rattle.loops.specs.Loop.{tabulate}
use Rattle.loops.specs.GatherLaws.{length_tabulate, get_d_tabulate}
use Rattle.number.specs.Number.{Bytes}
use Rattle.frame.specs.Job.{JobLink, Job, no_link, link, job_frame}
use Rattle.frame.specs.Arrays.{Columns, link_at}
use Rattle.frame.specs.Questions.{job_of, refusal}
use Rattle.frame.proofs.Form.{first_no}
use Rattle.frame.proofs.Accepted.{accepted, write_read6}
use Rattle.records.specs.declared.Link.{Link}
use Rattle.records.specs.Records.{zero_link, first_links}
use Rattle.records.proofs.RecordsLaws.{firsts_none, firsts_more, firsts_all, firsts_length, firsts_at}
use Rattle.held.specs.Held.{Stored}
use Rattle.accept.specs.ListJobs.{job_link}
use Rattle.reading.specs.JobsRead.{link_of, gathered, given_of, job_in, JobGiven}
use Rattle.limits.specs.declared.Refusal.{Refusal}
use Rattle.limits.specs.Refusals.{number_of}
use Rattle.reading.specs.declared.JobRead.{JobRead}

-- ---- gathering

-- As many links as are asked for.
whole : (n : ℕ) (ys : List Link) → length ys ≡ n → first_links n ys ≡ ys
whole n ys l = ext_get_or zero_link (first_links n ys) ys (firsts_length n ys ∙ sym l) λ e k. firsts_at n ys e (omega (arith, firsts_length n ys))

module _ (n : ℕ) (c : Columns) where
  abbrev row : ℕ → Link
  row e = link_of (link_at c e)

  -- The first e links are gathered.
  pub record Gathering (links : List Link) (e : ℕ) : Type 0 where
    pub within : e ≤ n
    pub is : links ≡ first_links n (take e (gathered n c))

  pub gather_start : Gathering (replicate n zero_link) 0
  gather_start = record { within = omega arith; is = sym (firsts_none n (gathered n c)) }

  pub gather_turn : (links : List Link) (e : ℕ) → e < n → Gathering links e → Gathering (set links e (link_of (link_at c e))) (e + 1)
  gather_turn links e l g =
      let ys = gathered n c in
      let here : get_or ys e zero_link ≡ row e = get_d_tabulate row n e zero_link l in
      record {
        within = omega arith;
        is = (λ i. set (g.is i) e (sym here i)) ∙ firsts_more n e ys l (omega (arith, length_tabulate row n));
      }

  pub gather_end : (links : List Link) (e : ℕ) → n ≤ e → Gathering links e → links ≡ gathered n c
  gather_end links e l g =
      let ys = gathered n c in
      let size : length ys ≡ n = length_tabulate row n in
      let all : e ≡ min (length ys) n = omega (arith, g.within, size) in
      g.is ∙ ap (λ (k : ℕ). first_links n (take k ys)) all ∙ firsts_all n n ys (omega arith) ∙ whole n ys size

-- ---- a job's links as records

-- Arrays that hold a job, gathered, are its links as records.
pub gathered_stored : (n : ℕ) {j : Job} {nodes edges : ℕ} {c : Columns} → Stored j nodes edges c → gathered n c ≡ first_links n (map link_of j.links)
gathered_stored n {j} k =
    let ls = j.links in
    let f : ℕ → Link = λ e. link_of (link j e) in
    (λ i. tabulate n λ e. record { end1 = k.end₁ i e; end2 = k.end₂ i e; cost = k.cost i e; mark = k.mark i e }) ∙
    ext_get_or zero_link (tabulate n f) (first_links n (map link_of ls)) (length_tabulate f n ∙ sym (firsts_length n (map link_of ls)))
    λ e l. let b : e < n = omega (arith, length_tabulate f n) in
    get_d_tabulate f n e zero_link b ∙ sym (firsts_at n (map link_of ls) e b ∙ get_or-map link_of ls e no_link)

-- The links that were read, as the job's.
taken_back : (n : ℕ) (ls : List JobLink) → length ls ≤ n → map job_link (take (length ls) (first_links n (map link_of ls))) ≡ ls
unfolding first_links
taken_back n [] h = refl
taken_back zero (l ∷ ls) h = absurd (omega arith)
taken_back (suc n) (l ∷ ls) h = rw (suc-sub-suc n (length (map link_of ls))) (ap {B = List JobLink} (λ r. l ∷ r) (taken_back n ls (omega arith)))

given_back : (j : Job) → length j.links ≤ 256 → job_in (given_of j) ≡ j
given_back j h i = record { nodes = j.nodes; links = taken_back 256 j.links h i }

-- ---- what is read of a frame

pub given_job :
    (n m : ℕ) (links : List Link) (j : Job) →
    n ≡ j.nodes →
    m ≡ length j.links →
    links ≡ first_links 256 (map link_of j.links) →
    record { nodes = n; count = m; links = links } ≡ given_of j
given_job n m links j pn pm pl i = record { nodes = pn i; count = pm i; links = pl i }

pub job_given : (s : List ℕ) → Bytes s → (g : JobRead) → refusal s ≡ 0 → g ≡ given_of (job_of s) → JobGiven s (Ok g)
job_given s b g z e =
    let job : job_in g ≡ job_of s = ap job_in e ∙ given_back (job_of s) (accepted s b z).edge_limit in
    record { number = sym z; first = first_no s b; said = e; job = job; again = ap job_frame job ∙ write_read6 s b z }

pub job_withheld : (s : List ℕ) → Bytes s → (q : Refusal) → number_of q ≡ refusal s → JobGiven s (Err q)
job_withheld s b q e = record { number = e; first = first_no s b; said = tt; job = tt; again = tt }
