-- The readers find what is in form, and nothing else; a sheet and new costs each give the other. Assumes nothing.
use Rattle.std.specs.Prelude.{ℕ, suc, ◌+◌, ◌^◌, ◌<◌, ◌≤◌, refl, ◌↔◌, true, get_or, drop, pos, nat_abs, ◌-ℤ◌}
use Rattle.std.proofs.Math.Decide.{ℕ_discrete, dec_lt}
use Rattle.std.proofs.Common.{arith, sym, ap, ◌∙◌, take-append-drop, eq-eqb, ne_eqb}
use Rattle.std.proofs.Math.Path.{◌≡◌, subst}
use mathlib.Core.List.{List, [], ◌∷◌, flat_map, Memᴰ}
use Rattle.std.proofs.Math.Option.{Option, some, none, map}
use Rattle.std.proofs.Math.ListN.{length, get_or-eq_default}
use Rattle.std.proofs.Math.Seq.{drop-append_seam}
use Rattle.limits.specs.Limits.{max_edges, number_bytes, change_bytes, sheet_most, costs_most}
use Rattle.loops.specs.Below.{sum}
use Rattle.loops.specs.Loop.{tabulate}
use Rattle.loops.specs.GatherLaws.{gather_same, length_tabulate, get_d_tabulate, tabulate_get_d}
use Rattle.loops.specs.TestLaws.{clash}
use Rattle.number.specs.Number.{Bytes, encode, Decoded, decode}
use Rattle.number.specs.Number.Decoded.{number}
use Rattle.number.proofs.Laws.{bytes_drop, decode_encode, encode_decode, encode_size_most}
use Rattle.frame.specs.Job.{bytes_of}
use Rattle.frame.specs.Meaning.{Small, Divides}
use Rattle.frame.specs.Questions.{numbers}
use Rattle.frame.proofs.Division.{division, division_unique}
use Rattle.frame.proofs.Accepted.{numbers_bytes}
use Rattle.frame.proofs.AnswerSize.{bytes_most}
use Rattle.sheet.specs.Sheet.{Move, sheet_frame, MoveIn, RisingMoves, SheetOf, InRange, costs_frame, CostsOf, LeadsTo, moves_of, Translated, move_sum}
use Rattle.sheet.specs.Reading.{is_some, costs_from, read_costs, costs_at, behind_count, apply_sheet, sheet_bytes, costs_bytes}
use Rattle.sheet.proofs.EntryLaws.{entries_bytes, Applied, apply_sound, apply_complete}
use Rattle.sheet.proofs.MoveLaws.{moves_sheet, moves_lead, lead_moves, move_sum_lem, sheet_most_lem}

-- ---- costs

module _ (m : ℕ) (s : List ℕ) where
  costs_divided : (ns : List ℕ) → Divides s ns → length ns ≡ m → CostsOf m s (costs_at ns)
  costs_divided ns v l =
      record {
        joined = ap bytes_of (ap (λ (n : ℕ). tabulate n (costs_at ns)) (sym l) ∙ tabulate_get_d ns 0) ∙ v.joined;
        limit = λ e _. v.small e;
      }

  costs_of : Bytes s → (ns : List ℕ) (o : Option (List ℕ)) → numbers s ≡ o → costs_from m o ≡ some ns → CostsOf m s (costs_at ns)
  unfolding costs_from
  costs_of h ns none e q = let z : ◌≡◌ {A = ℕ} 0 1 = cc in absurd (omega arith)
  costs_of h ns (some ns') e q =
      elim (ℕ_discrete (length ns') m) [
        | yes l ↦
            let same : ns' ≡ ns = cc (eq-eqb (length ns') m l) in
            subst (λ (ns : List ℕ). CostsOf m s (costs_at ns)) same (costs_divided ns' ((division s ns' h).0 e) l)
        | no l ↦ let z : ◌≡◌ {A = ℕ} 0 1 = cc (ne_eqb (length ns') m l) in absurd (omega arith)
      ]

  pub costs_sound : Bytes s → (ns : List ℕ) → read_costs m s ≡ some ns → CostsOf m s (costs_at ns)
  costs_sound h ns q = costs_of h ns (numbers s) refl q

tabulated_small : (m : ℕ) (d : ℕ → ℕ) → InRange m d → Small (tabulate m d)
tabulated_small m d h i =
    elim (dec_lt i m) [
      | yes l ↦ rw (get_d_tabulate d m i 0 l) (h i l)
      | no l ↦ rw (get_or-eq_default (tabulate m d) 0 {n = i} (omega (arith, length_tabulate d m))) (omega arith)
    ]

pub costs_complete : (m : ℕ) (s : List ℕ) → Bytes s → (d : ℕ → ℕ) → CostsOf m s d → read_costs m s ≡ some (tabulate m d)
unfolding costs_from
costs_complete m s h d v =
    rw (
      (division s (tabulate m d) h).1 (record { small = tabulated_small m d v.limit; joined = v.joined }),
      eq-eqb (length (tabulate m d)) m (length_tabulate d m),
    )

-- ---- sheets

-- A rising list of links below m, from `least` on, is short.
rising_few :
    (m least : ℕ) (ks : List Move) → least ≤ m → RisingMoves ks → ((k : Move) → Memᴰ k ks → MoveIn m k)
    → ((k : Move) → Memᴰ k ks → least ≤ k.edge) → length ks + least ≤ m
rising_few m least [] l o each from = omega arith
rising_few m least (k ∷ ks) l o each from =
    let own = (each k (Memᴰ.head refl)).inside in
    omega (
      arith,
      rising_few m (suc k.edge) ks (omega (arith, own)) o.1 (λ x q. each x (Memᴰ.tail q)) (λ x q. o.0 x q),
      from k (Memᴰ.head refl),
    )

module _ (m : ℕ) (few : m ≤ max_edges) (c : ℕ → ℕ) where
  -- What the reader finds.
  pub record SheetRead (s : List ℕ) (d : ℕ → ℕ) : Type 0 where
    pub moves : List Move
    pub sheet : SheetOf m s moves
    pub leads : LeadsTo m moves c d

  module _ (old : InRange m c) (s : List ℕ) (h : Bytes s) (d : ℕ → ℕ) where
    counted : (n k : ℕ) → decode change_bytes s ≡ number n k → Applied m n 0 c d (drop k s) → SheetRead s d
    unfolding flat_map
    counted n k e a =
        record {
          moves = a.moves;
          sheet = record {
            joined = rw (a.count, a.joined, encode_decode change_bytes s n k h e) (take-append-drop k s);
            rising = a.rising;
            each = a.each;
          };
          leads = record { changed = λ e _. a.changed e; limit = λ e l. a.limit e (old e l) };
        }

    read : (r : Decoded) → decode change_bytes s ≡ r → behind_count m c s r ≡ some d → SheetRead s d
    unfolding behind_count
    read Decoded.none e q = let z : ◌≡◌ {A = ℕ} 0 1 = cc in absurd (omega arith)
    read (number n k) e q = counted n k e (apply_sound m n 0 c d (drop k s) (bytes_drop k s h) q)

    pub sheet_sound : apply_sheet m c s ≡ some d → SheetRead s d
    sheet_sound q = read (decode change_bytes s) refl q

  pub sheet_complete :
      (s : List ℕ) (ks : List Move) (d : ℕ → ℕ) → SheetOf m s ks → LeadsTo m ks c d
      → (d' : ℕ → ℕ) × (apply_sheet m c s ≡ some d') × ((e : ℕ) → e < m → d' e ≡ d e)
  unfolding behind_count flat_map
  sheet_complete s ks d v leads =
      let (d', all, same) = apply_complete m (omega (arith, few)) ks 0 c d v.rising v.each (λ _ _. omega arith) leads.changed leads.limit in
      let fits : length ks < 128 ^ change_bytes = omega (arith, rising_few m 0 ks (omega arith) v.rising v.each (λ _ _. omega arith), few) in
      let read = decode_encode change_bytes (length ks) (entries_bytes ks) (omega arith) fits in
      (d', rw (← v.joined, read, drop-append_seam (encode change_bytes (length ks)) (entries_bytes ks)) all, same)

-- ---- each gives the other

mapped : {A B : Type 0} (f : A → B) (o : Option A) (y : B) → map f o ≡ some y → (x : A) × (o ≡ some x) × (f x ≡ y)
mapped f (some x) y e = (x, refl, cc)
mapped f none y e = let z : ◌≡◌ {A = ℕ} 0 1 = cc in absurd (omega arith)

-- Costs that are the same below m have the same bytes.
costs_same : (m : ℕ) (d d' : ℕ → ℕ) → ((e : ℕ) → e < m → d e ≡ d' e) → costs_frame m d ≡ costs_frame m d'
costs_same m d d' h = ap bytes_of (gather_same m (λ e. d e ∷ []) (λ e. d' e ∷ []) (λ e l. ap (λ (x : ℕ). x ∷ []) (h e l)))

module _ (m : ℕ) (few : m ≤ max_edges) (c : ℕ → ℕ) (old : InRange m c) (s f : List ℕ) where
  -- From what the services make, and back.
  sheet_translated : Bytes f → sheet_bytes m c f ≡ some s → Translated m c s f
  sheet_translated h e =
      let (ns, q, r) = mapped (λ ns. sheet_frame (moves_of m c (costs_at ns))) (read_costs m f) s e in
      let d = costs_at ns in
      let v = costs_sound m f h ns q in
      record {
        moves = moves_of m c d;
        new = d;
        sheet = subst (λ (s : List ℕ). SheetOf m s (moves_of m c d)) r (moves_sheet m c d old v.limit);
        costs = v;
        leads = moves_lead m c d old v.limit;
      }

  pub translated_sheet : Translated m c s f → sheet_bytes m c f ≡ some s
  translated_sheet t =
      let d = costs_at (tabulate m t.new) in
      let same : (e : ℕ) → e < m → d e ≡ t.new e = λ e l. get_d_tabulate t.new m e 0 l in
      let leads : LeadsTo m t.moves c d = record {
        changed = λ e l. ap pos (same e l) ∙ t.leads.changed e l;
        limit = λ e l. rw (same e l) (t.leads.limit e l);
      } in
      let h = subst Bytes t.costs.joined (numbers_bytes (tabulate m t.new)) in
      rw (costs_complete m f h t.new t.costs, lead_moves m c d t.moves t.sheet.rising t.sheet.each leads, t.sheet.joined)

  costs_translated : Bytes s → costs_bytes m c s ≡ some f → Translated m c s f
  costs_translated h e =
      let (d, q, r) = mapped (costs_frame m) (apply_sheet m c s) f e in
      let v = sheet_sound m few c old s h d q in
      record { moves = v.moves; new = d; sheet = v.sheet; costs = record { joined = r; limit = v.leads.limit }; leads = v.leads }

  pub translated_costs : Translated m c s f → costs_bytes m c s ≡ some f
  translated_costs t =
      let (d, q, same) = sheet_complete m few c s t.moves t.new t.sheet t.leads in
      rw (q, costs_same m d t.new same, t.costs.joined)

  -- The costs f have the sheet s, and the sheet s the costs f, exactly if the two give each other.
  pub sheet_means : Bytes f → (sheet_bytes m c f ≡ some s) ↔ Translated m c s f
  sheet_means h = (sheet_translated h, translated_sheet)

  pub costs_means : Bytes s → (costs_bytes m c s ≡ some f) ↔ Translated m c s f
  costs_means h = (costs_translated h, translated_costs)

-- Costs of up to 256 links have at most 768 bytes.
pub costs_most_lem : (m : ℕ) → m ≤ max_edges → (d : ℕ → ℕ) → length (costs_frame m d) ≤ costs_most
costs_most_lem m few d =
    let ns = tabulate m d in
    omega (arith, bytes_most number_bytes ns (λ i. encode_size_most number_bytes (get_or ns i 0)), length_tabulate d m, few)

-- ---- when there is one

pub found_some : {A : Type 0} (o : Option A) → is_some o ≡ true → (x : A) × (o ≡ some x)
found_some (some x) e = (x, refl)
found_some none e = clash e refl

pub sheet_found : (m : ℕ) (c : ℕ → ℕ) (f : List ℕ) → Bytes f → (is_some (sheet_bytes m c f) ≡ true) ↔ ((d : ℕ → ℕ) × CostsOf m f d)
sheet_found m c f h = (to, from)
  where
    to : is_some (sheet_bytes m c f) ≡ true → (d : ℕ → ℕ) × CostsOf m f d
    to e =
        let (s, q) = found_some (sheet_bytes m c f) e in
        let (ns, r, _) = mapped (λ ns. sheet_frame (moves_of m c (costs_at ns))) (read_costs m f) s q in
        (costs_at ns, costs_sound m f h ns r)

    from : (d : ℕ → ℕ) × CostsOf m f d → is_some (sheet_bytes m c f) ≡ true
    from v = rw (costs_complete m f h v.0 v.1)

module _ (m : ℕ) (few : m ≤ max_edges) (c : ℕ → ℕ) (old : InRange m c) where
  pub costs_found : (s : List ℕ) → Bytes s → (is_some (costs_bytes m c s) ≡ true) ↔ ((ks : List Move) × SheetOf m s ks × ((d : ℕ → ℕ) × LeadsTo m ks c d))
  costs_found s h = (to, from)
    where
      to : is_some (costs_bytes m c s) ≡ true → (ks : List Move) × SheetOf m s ks × ((d : ℕ → ℕ) × LeadsTo m ks c d)
      to e =
          let (f, q) = found_some (costs_bytes m c s) e in
          let (d, r, _) = mapped (costs_frame m) (apply_sheet m c s) f q in
          let v = sheet_sound m few c old s h d r in
          (v.moves, v.sheet, (d, v.leads))

      from : (ks : List Move) × SheetOf m s ks × ((d : ℕ → ℕ) × LeadsTo m ks c d) → is_some (costs_bytes m c s) ≡ true
      from v = let (d, q, _) = sheet_complete m few c s v.0 v.2.0 v.1 v.2.1 in rw q

  -- ---- what follows

  module _ (s f : List ℕ) (t : Translated m c s f) where
    moves_are : moves_of m c t.new ≡ t.moves
    moves_are = lead_moves m c t.new t.moves t.sheet.rising t.sheet.each t.leads

    -- The absolute changes are the steps from the old costs to the new ones.
    pub translated_sum : move_sum t.moves ≡ sum m (λ e. nat_abs (pos (t.new e) -ℤ pos (c e)))
    translated_sum = ap move_sum (sym moves_are) ∙ move_sum_lem m c t.new

    pub translated_most : length s ≤ sheet_most
    translated_most = omega (arith, ap length (ap sheet_frame moves_are ∙ t.sheet.joined), sheet_most_lem c t.new m few)

    pub translated_costs_most : length f ≤ costs_most
    translated_costs_most = omega (arith, ap length t.costs.joined, costs_most_lem m few t.new)

    -- The costs are the numbers of the bytes.
    pub translated_costs_are : (ns : List ℕ) → Divides f ns → (e : ℕ) → e < m → t.new e ≡ get_or ns e 0
    translated_costs_are ns v e l =
        let h = subst Bytes t.costs.joined (numbers_bytes (tabulate m t.new)) in
        let own : Divides f (tabulate m t.new) = record { small = tabulated_small m t.new t.costs.limit; joined = t.costs.joined } in
        sym (get_d_tabulate t.new m e 0 l) ∙ ap (λ (xs : List ℕ). get_or xs e 0) (division_unique f (tabulate m t.new) ns h own v)
