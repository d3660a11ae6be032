-- A job that was read into arrays of zeros: the arrays are its graph, its tree and its costs, and question 6 over them is
-- the job's. Assumes nothing.
use Rattle.std.specs.Prelude.{ℕ, suc, ◌+◌, ◌-◌, ◌<◌, ◌≤◌, ◌≡◌, refl, Bool, true, false, List, leb, length, get_or, take}
use Rattle.std.proofs.Math.Decide.{ℕ_discrete}
use Rattle.std.proofs.Common.{arith, sym, subst, ◌∙◌, get_or-take, ne_eqb}
use Rattle.std.proofs.Math.Path.{ap, ap₂}
use Rattle.std.proofs.lemmas.List.Edits.{sets}
use Rattle.std.proofs.Math.Seq.{length-sets}
use Rattle.limits.specs.Limits.{marks_tree}
use Rattle.number.specs.Number.{Bytes}
use Rattle.loops.specs.TestLaws.{clash, same_test}
use Rattle.graph.specs.CountLaws.{count_below}
use Rattle.graph.specs.Graph.{Graph}
use Rattle.graph.specs.Rank.{sorted, members, tree_ranks, Lists}
use Rattle.graph.specs.RankLaws.{members_list, tree_lists}
use Rattle.graph.specs.Paths.{rooted, is_tree}
use Rattle.graph.proofs.Tree.{tree_means}
use Rattle.frame.specs.Job.{JobLink, Job, link, graph_of, tree_of, cost_of}
use Rattle.frame.specs.Arrays.{Columns, Arrays}
use Rattle.frame.specs.Questions.{ask, job_of, question4, question5, question6, layout_refusal, job_refusal}
use Rattle.frame.proofs.Form.{question4_means, question5_means, tree_usable, question6_means, ends_sound, two_refused}
use Rattle.frame.proofs.Lists.{Listed, ask_passed, small_job, counted_limits}
use Rattle.frame.proofs.Accepted.{laid_job, listed_accepted, cost_small}
use Rattle.adjacency.specs.Words.{RankedEnds}
use Rattle.paths.specs.Arrays.{array_graph, Walked}
use Rattle.ranks.specs.Keys.{in_tree, tree_list, tree_edges, SmallCosts}
use Rattle.job.specs.Reading.{filled}
use Rattle.links.specs.Columns.{firsts, seconds, costs, marks, links_refusal, Places}
use Rattle.links.specs.ColumnLaws.{column_held, length_zeros}
use Rattle.links.specs.ListLaws.{list_links}
use Rattle.held.specs.Held.{Stored}
use Rattle.held.specs.HeldLaws.{graph_stored, stored_job}
use Rattle.accept.specs.Accepting.{Empty, tree_refusal, HeldAs}

abbrev places_of : List ℕ → ℕ → ℕ
places_of l e = get_or l e 0

pub empty_places : {a : Arrays} → Empty a → Places a.links
empty_places e =
    record {
      end₁ = ap length e.end₁ ∙ length_zeros 256;
      end₂ = ap length e.end₂ ∙ length_zeros 256;
      cost = ap length e.cost ∙ length_zeros 256;
      mark = ap length e.mark ∙ length_zeros 256;
    }

-- A frame that passes questions 1 to 3, read into arrays of zeros, is so stored.
pub stored :
    (s : List ℕ) (z : Arrays) (c : Columns) (nodes edges : ℕ) →
    Bytes s →
    layout_refusal s ≡ 0 →
    Empty z →
    c ≡ filled (job_of s).links 0 z.links →
    nodes ≡ (job_of s).nodes →
    edges ≡ length (job_of s).links →
    Stored (job_of s) nodes edges c
stored s z c nodes edges b none empty full pn pm =
    let (small, counted) = laid_job s b none in
    let few = (counted_limits (job_of s) counted).2 in
    let ls = (job_of s).links in
    record {
      small = small;
      counted = counted;
      nodes_are = pn;
      edges_are = pm;
      end₁ =
          ap places_of (ap (λ (c : Columns). c.end₁) full ∙ ap (λ (z : List ℕ). sets z 0 (firsts ls)) empty.end₁) ∙
          column_held (λ (l : JobLink). l.end₁) refl 256 ls few;
      end₁_places = ap (λ (c : Columns). length c.end₁) full ∙ length-sets z.links.end₁ 0 (firsts ls) ∙ (empty_places empty).end₁;
      end₂ =
          ap places_of (ap (λ (c : Columns). c.end₂) full ∙ ap (λ (z : List ℕ). sets z 0 (seconds ls)) empty.end₂) ∙
          column_held (λ (l : JobLink). l.end₂) refl 256 ls few;
      cost =
          ap places_of (ap (λ (c : Columns). c.cost) full ∙ ap (λ (z : List ℕ). sets z 0 (costs ls)) empty.cost) ∙
          column_held (λ (l : JobLink). l.cost) refl 256 ls few;
      cost_places = ap (λ (c : Columns). length c.cost) full ∙ length-sets z.links.cost 0 (costs ls) ∙ (empty_places empty).cost;
      mark =
          ap places_of (ap (λ (c : Columns). c.mark) full ∙ ap (λ (z : List ℕ). sets z 0 (marks ls)) empty.mark) ∙
          column_held (λ (l : JobLink). l.mark) refl 256 ls few;
      mark_places = ap (λ (c : Columns). length c.mark) full ∙ length-sets z.links.mark 0 (marks ls) ∙ (empty_places empty).mark;
    }

-- The first places of an array list the job's tree links, each once, in any order.
pub record TreeListed (j : Job) (count : ℕ) (ts : List ℕ) : Type 0 where
  pub lists : Lists (length j.links) (tree_of j) (take count ts)
  pub size : count ≡ length (take count ts)
  pub places : length ts ≡ 256

-- Of a job that passes questions 1 to 5, question 6 decides.
tree_asked : {j : Job} → Listed j → tree_refusal j ≡ job_refusal j
tree_asked {j} f = rw ((question4_means j).1 f.ends, (question5_means j).1 f.marks)

module _ {j : Job} {n m : ℕ} {c : Columns} (k : Stored j n m c) where
  nodes_few : n ≤ 64
  nodes_few = omega (arith, k.nodes_are, (counted_limits j k.counted).1)

  pub edges_most : m ≤ 256
  edges_most = omega (arith, k.edges_are, (counted_limits j k.counted).2)

  pub costs_small : SmallCosts m c.cost
  costs_small e l = omega (arith, ap (λ (f : ℕ → ℕ). f e) k.cost, cost_small j (small_job j k.small) e)

  -- Questions 4 and 5 over the arrays are those of the job.
  links_asked : links_refusal n m c.end₁ c.end₂ c.mark ≡ (ask (question4 j) 4 λ _. ask (question5 j) 5 λ _. 0)
  links_asked = list_links n m c ∙ ap (λ (j : Job). ask (question4 j) 4 λ _. ask (question5 j) 5 λ _. 0) (stored_job k)

  -- Where they refuse, and where the job passes them.
  module _ (r : ℕ) (said : r ≡ links_refusal n m c.end₁ c.end₂ c.mark) where
    pub links_wrong : (r ≡ 0 → ⊥) → r ≡ job_refusal j
    links_wrong w =
        let two = said ∙ links_asked in
        two ∙ sym (two_refused (question4 j) (question5 j) 4 5 (tree_refusal j) (λ z. w (two ∙ z)))

    pub links_right : r ≡ 0 → Listed j
    links_right z =
        let (y₄, rest) = ask_passed (question4 j) 3 (λ _. ask (question5 j) 5 λ _. 0) (sym (said ∙ links_asked) ∙ z) in
        let y₅ = (ask_passed (question5 j) 4 (λ _. 0) rest).0 in
        record { small = k.small; counted = k.counted; ends = (question4_means j).0 y₄; marks = (question5_means j).0 y₅ }

  -- Tree edges by rank, as the code lists them, and in the order of their numbers.
  by_rank : ℕ → (ℕ → ℕ) → (ℕ → ℕ) → List ℕ
  by_rank m cost mark = sorted (λ x y. leb (cost y) (cost x)) (members m (λ e. marks_tree (mark e)))

  ranks_are : tree_list m c.cost c.mark ≡ tree_ranks (graph_of j) (tree_of j) (cost_of j)
  unfolding by_rank
  ranks_are = ap₂ (by_rank m) k.cost k.mark ∙ ap (λ (m : ℕ). by_rank m (cost_of j) (λ e. (link j e).mark)) k.edges_are

  in_order : ℕ → (ℕ → ℕ) → List ℕ
  in_order m mark = members m (λ e. marks_tree (mark e))

  members_are : members m (in_tree c.mark) ≡ members (length j.links) (tree_of j)
  unfolding in_order
  members_are = ap (in_order m) k.mark ∙ ap (λ (m : ℕ). in_order m (λ e. (link j e).mark)) k.edges_are

  pub tree_listed :
      (ranked : Bool) (count : ℕ) (ts : List ℕ) →
      count ≡ length (tree_edges ranked m c.cost c.mark) →
      take count ts ≡ tree_edges ranked m c.cost c.mark →
      length ts ≡ 256 →
      TreeListed j count ts
  tree_listed ranked count ts size listed places =
      record { lists = rw listed (either ranked); size = size ∙ ap length (sym listed); places = places }
    where
      either : (ranked : Bool) → Lists (length j.links) (tree_of j) (tree_edges ranked m c.cost c.mark)
      either true = rw ranks_are (tree_lists (graph_of j) (tree_of j) (cost_of j))
      either false = rw members_are (members_list (length j.links) (tree_of j))

  -- The code's count of tree edges, and its list of them.
  module _ (f : Listed j) {count : ℕ} {ts : List ℕ} (t : TreeListed j count ts) where
    pub count_few : count ≤ 256
    count_few = omega (arith, t.size, t.lists.size, count_below (length j.links) (tree_of j), edges_most, k.edges_are)

    -- Question 6 may be put to any list of them.
    any_list : question6 j ≡ is_tree (graph_of j) (take count ts)
    any_list =
        let l = (counted_limits j k.counted).0 in
        let by_rank = question6_means j l f.ends in
        let so-listed = tree_means (ends_sound j f.ends) t.lists l (λ e b. tree_usable j e) in
        same_test _ _ (λ h. so-listed.1 (by_rank.0 h)) (λ h. by_rank.1 (so-listed.0 h))

    -- Another number of tree edges than it should be.
    question_wrong : (count + 1 ≡ n → ⊥) → question6 j ≡ false
    question_wrong w = any_list ∙ rw (← t.size, ne_eqb (suc count) j.nodes (λ q. w (omega (arith, q, k.nodes_are))))

    module _ (right : count + 1 ≡ n) where
      rank_edge : (i : ℕ) → i < count → get_or ts i 0 < length j.links
      rank_edge i l =
          let in_List = t.lists.below i (omega (arith, t.size)) in
          subst (λ (e : ℕ). e < length j.links) (get_or-take count ts i 0 l) in_List

      pub tree_ranked : RankedEnds n count ts c.end₁ c.end₂
      tree_ranked =
          record {
            small = nodes_few;
            few = omega (arith, right, nodes_few);
            within = omega (arith, count_few, t.places);
            edge = λ i l. omega (arith, rank_edge i l, edges_most, k.edges_are);
            first = λ i l. omega (arith, ap (λ (f : ℕ → ℕ). f (get_or ts i 0)) k.end₁, f.ends.first (get_or ts i 0) (rank_edge i l), k.nodes_are);
            second = λ i l. omega (arith, ap (λ (f : ℕ → ℕ). f (get_or ts i 0)) k.end₂, f.ends.second (get_or ts i 0) (rank_edge i l), k.nodes_are);
          }

    -- Whether they join all stations.
    module _ (r : Bool) (said : (edges : ℕ) (mark : List ℕ) → r ≡ is_tree (array_graph n edges c.end₁ c.end₂ mark) (take count ts)) where
      tree_answer : r ≡ question6 j
      tree_answer = said m c.mark ∙ ap (λ (g : Graph). is_tree g (take count ts)) (graph_stored k) ∙ sym any_list

      pub tree_wrong : r ≡ false → 6 ≡ job_refusal j
      tree_wrong w =
          let no : question6 j ≡ false = sym tree_answer ∙ w in
          let six : 6 ≡ tree_refusal j = rw no in
          six ∙ tree_asked f

      module _ (y : r ≡ true) where
        tree_yes : question6 j ≡ true
        tree_yes = sym tree_answer ∙ y

        count_right : count + 1 ≡ n
        count_right = elim (ℕ_discrete (count + 1) n) [ yes e ↦ e | no d ↦ clash tree_yes (question_wrong d) ]

        pub tree_right : 0 ≡ job_refusal j
        tree_right = let none : 0 ≡ tree_refusal j = rw tree_yes in none ∙ tree_asked f

        -- Listed by rank, they are held with their paths.
        pub tree_kept :
            (ranked : Bool) → take count ts ≡ tree_edges ranked m c.cost c.mark
            → (mask : List ℕ) → Walked n count ts c.end₁ c.end₂ n mask → HeldAs ranked j n m (record { links = c; ranks = ts; mask = mask })
        tree_kept true listed mask w =
            let last : n - 1 ≡ count = omega (arith, count_right) in
            let ts-are = listed ∙ ranks_are in
            record {
              stored = k;
              accepted = listed_accepted j f tree_yes;
              ranks = ap (λ (i : ℕ). take i ts) last ∙ ts-are;
              places = t.places;
              paths = w.paths m c.mark ∙ (λ i. (rooted (graph_stored k i) (ts-are i)).path);
            }
        tree_kept false listed mask w = k
