-- Job frames: what passes questions 1 to 5 is read and written again byte for byte, and what is written of a job that
-- passes them reads as that job. Assumes nothing.
use Rattle.std.specs.Prelude.{ℕ, zero, suc, ◌*◌, ◌≤◌, ◌≡◌, refl, length, drop}
use Rattle.std.proofs.Common.{arith, sym, ap, ◌∙◌, length-drop}
use mathlib.Core.List.{List, [], ◌∷◌, ◌++◌, flat_map, append_assoc}
use Rattle.number.specs.Number.{Bytes}
use Rattle.frame.specs.Job.{JobLink, Job, fields, job_numbers, bytes_of, job_frame}
use Rattle.frame.specs.Questions.{job_of, form_refusal, refusal}
use Rattle.frame.specs.Meaning.{Divides, Complete, Formed, FirstNo, links_of, node_count, edge_count, job_from}
use Rattle.frame.specs.Meaning.FirstNo.{no1, no2, no3, no4, no5, no6, none}
use Rattle.frame.proofs.Division.{division}
use Rattle.frame.proofs.Form.{first_no, before_tree, form_refusal_lem}

pub flat_map_append : {A B : Type 0} (f : A → List B) (xs ys : List A) → flat_map f (xs ++ ys) ≡ flat_map f xs ++ flat_map f ys
unfolding flat_map
flat_map_append f [] ys = refl
flat_map_append f (x ∷ xs) ys = rw (flat_map_append f xs ys) (sym (append_assoc (f x) (flat_map f xs) (flat_map f ys)))

-- As many links as there are fours of numbers.
pub length_links : (m : ℕ) (ns : List ℕ) → length ns ≡ 4 * m → length (links_of ns) ≡ m
unfolding links_of
length_links zero [] e = refl
length_links zero (a ∷ ns) e = absurd (omega arith)
length_links (suc m) [] e = absurd (omega arith)
length_links (suc m) (a ∷ []) e = absurd (omega arith)
length_links (suc m) (a ∷ b ∷ []) e = absurd (omega arith)
length_links (suc m) (a ∷ b ∷ c ∷ []) e = absurd (omega arith)
length_links (suc m) (a ∷ b ∷ c ∷ k ∷ ns) e = ap suc (length_links m ns (omega arith))

links_numbers : (m : ℕ) (ns : List ℕ) → length ns ≡ 4 * m → flat_map fields (links_of ns) ≡ ns
unfolding flat_map links_of
links_numbers zero [] e = refl
links_numbers zero (a ∷ ns) e = absurd (omega arith)
links_numbers (suc m) [] e = absurd (omega arith)
links_numbers (suc m) (a ∷ []) e = absurd (omega arith)
links_numbers (suc m) (a ∷ b ∷ []) e = absurd (omega arith)
links_numbers (suc m) (a ∷ b ∷ c ∷ []) e = absurd (omega arith)
links_numbers (suc m) (a ∷ b ∷ c ∷ k ∷ ns) e = ap (λ (r : List ℕ). a ∷ b ∷ c ∷ k ∷ r) (links_numbers m ns (omega arith))

numbers_links : (ls : List JobLink) → links_of (flat_map fields ls) ≡ ls
unfolding flat_map links_of
numbers_links [] = refl
numbers_links (l ∷ ls) = ap (λ (r : List JobLink). l ∷ r) (numbers_links ls)

numbers_split : (ns : List ℕ) → 2 ≤ length ns → node_count ns ∷ edge_count ns ∷ drop 2 ns ≡ ns
numbers_split [] l = absurd (omega arith)
numbers_split (n ∷ []) l = absurd (omega arith)
numbers_split (n ∷ m ∷ ns) l = refl

-- Numbers that pass questions 2 and 3 are the numbers of their job.
pub job_numbers_lem : (ns : List ℕ) → 2 ≤ length ns → Complete ns → job_numbers (job_from ns) ≡ ns
job_numbers_lem ns l e =
    let four : length (drop 2 ns) ≡ 4 * edge_count ns = omega (arith, length-drop 2 ns) in
    rw (length_links (edge_count ns) (drop 2 ns) four, links_numbers (edge_count ns) (drop 2 ns) four)
    (numbers_split ns l)

-- The job of a job's numbers is that job.
pub numbers_job : (j : Job) → job_from (job_numbers j) ≡ j
numbers_job j = ap (λ (ls : List JobLink). record { nodes = j.nodes; links = ls }) (numbers_links j.links)

-- The numbers of a frame that passes questions 1 to 5.
formed_of : (s : List ℕ) (r : ℕ) → FirstNo s r → before_tree r ≡ 0 → (ns : List ℕ) × Formed s ns
formed_of s r (no1 q) e = absurd (omega arith)
formed_of s r (no2 ns d q) e = absurd (omega arith)
formed_of s r (no3 ns d h₂ q) e = absurd (omega arith)
formed_of s r (no4 ns d h₂ h₃ q) e = absurd (omega arith)
formed_of s r (no5 ns d h₂ h₃ h₄ q) e = absurd (omega arith)
formed_of s r (no6 ns f q) e = (ns, f)
formed_of s r (none ns f t) e = (ns, f)

pub formed : (s : List ℕ) → Bytes s → form_refusal s ≡ 0 → (ns : List ℕ) × Formed s ns
formed s h e = formed_of s (refusal s) (first_no s h) (sym (form_refusal_lem s) ∙ e)

pub job_of_lem : (s ns : List ℕ) → Bytes s → Divides s ns → job_of s ≡ job_from ns
job_of_lem s ns h d = rw ((division s ns h).1 d)

-- A frame that passes questions 1 to 5, read and written again, is the same bytes.
pub write_read : (s : List ℕ) → Bytes s → form_refusal s ≡ 0 → job_frame (job_of s) ≡ s
write_read s h e =
    let (ns, f) = formed s h e in
    ap job_frame (job_of_lem s ns h f.divides) ∙ ap bytes_of (job_numbers_lem ns f.counted.two f.complete) ∙ f.divides.joined

-- A frame that passes questions 1 to 5 has at most 256 links.
pub links_few : (s : List ℕ) → Bytes s → form_refusal s ≡ 0 → length (job_of s).links ≤ 256
links_few s b z =
    let (ns, f) = formed s b z in
    let four : length (drop 2 ns) ≡ 4 * edge_count ns = omega (arith, length-drop 2 ns, f.complete) in
    omega (arith, ap (λ j. length j.links) (job_of_lem s ns b f.divides), length_links (edge_count ns) (drop 2 ns) four, f.counted.edge_limit)
