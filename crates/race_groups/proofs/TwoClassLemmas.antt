-- What each class adds to the count of all pairs, and that it is all.
use Rattle.std.proofs.Common.{◌≡◌, ℕ, ◌+◌, ◌-◌, ◌*◌, ◌<◌, ◌≤◌, ◌==◌, ◌&&◌, ◌||◌, Bool, true, false, cond, List, Vec, length, sum_by, slice_index, get_or, All, Option, Some, None, refl, sym, ap, ◌∙◌, arith}
use Rattle.std.specs.declared.alloc.Global.{Global}
use Rattle.std.specs.List.{slice_get}
use Rattle.std.proofs.lemmas.Bool.{eq-eqb, eqb-true, false_from_ne_true}
use Rattle.std.proofs.lemmas.Option.{slice_get-get_or}
use Rattle.std.proofs.lemmas.List.Sums.{sum_by-le-sum_by}
use Rattle.rapid_text.specs.declared.event.Event.{Event}
use Rattle.rapid_text.specs.declared.event.Op.{Op}
use Rattle.rapid_text.specs.declared.event.Op.TheVariants.{Read, Write, Acquire, Release, Fork, Join}
use Rattle.rapid_text.specs.Recording.{Recording, IsWellFormed}
use Rattle.event_index.specs.Lookups.{before, events_of}
use Rattle.event_index.specs.Relations.{is_access, is_clash_of_ops}
use Rattle.event_index.proofs.CallerLemmas.{events_of-within}
use Rattle.race_groups.specs.Classes.{AreConflicting, adds_to}
use Rattle.race_groups.specs.Counting.{below_sum, class_count, class_sum, thread_sum, threads_sum, total_ends, whole_ends}
use Rattle.race_groups.specs.Counts.{keeps}
use Rattle.race_groups.specs.Groups.{is_between}
use Rattle.race_groups.specs.Rows.{Part, of_all, of_candidates, of_ordered, of_guarded, by_part}
use Rattle.race_groups.specs.Totals.{AreSpread, adds_both, at_greater, entries_at, total_count, total_sum, two_sum, weighed_sum}
use Rattle.race_groups.specs.declared.class.Class.{Class}
use Rattle.race_groups.proofs.ClassLemmas.{class_whole, members_fit}
use Rattle.race_groups.proofs.ConflictLemmas.{conflicting_all}
use Rattle.race_groups.proofs.DoubledLemmas.{between_turned, same_tests, sum_by-times}
use Rattle.race_groups.proofs.GreaterLemmas.{greater_all, greater_if, greater_le, greater_nothing}
use Rattle.race_groups.proofs.PairLemmas.{sum_by_below-le}
use Rattle.race_groups.proofs.SpreadLemmas.{entries_now}
use Rattle.race_groups.proofs.SumLemmas.{sum_by_at, sum_by_below, sum_by_each, sum_by_if, sum_by_turned, sum_by_zero}
use Rattle.race_groups.proofs.TotalLemmas.{classes_all, same_thread, total_few, total_fits, total_within, two_all, two_none, two_turned}
use Rattle.race_groups.proofs.WalkLemmas.{share_of, some_class}
use Rattle.race_groups.proofs.WholeLemmas.{members_all, none_added}

-- what the code gives for a class: how many pairs, counted for both where the other class is less
abbrev pub pairs_of : List ℕ → List (Vec (ℕ × ℕ) Global) → List ℕ → ℕ → ℕ → ℕ
pairs_of totals spread weights times c = times * slice_index totals c - weighed_sum (slice_index weights) (entries_at spread c)

abbrev pub total_of : List ℕ → List (Vec (ℕ × ℕ) Global) → List ℕ → ℕ → ℕ → Part → ℕ → ℕ
total_of totals spread weights times j k c = by_part (at_greater j c (pairs_of totals spread weights times c)) 0 0 k

cond_none : (b : Bool) → ◌≡◌ {A = ℕ} (cond b 0 0) 0
cond_none true = refl
cond_none false = refl

one_times : (b : Bool) (n : ℕ) → n * cond b 1 0 ≡ cond b n 0
one_times true n = omega arith
one_times false n = omega arith

module _ (r : Recording) (formed : IsWellFormed r) (classes : List ℕ) (n : ℕ) (spread : List (Vec (ℕ × ℕ) Global)) (are : AreSpread r.events (length r.threads) classes n spread) where
  -- the entry of a thread
  pub weight_is : (j t : ℕ) → j < n → t < length r.threads → weighed_sum (λ u. cond (t == u) 1 0) (entries_at spread j) ≡ class_count classes j (events_of r.events t)
  weight_is j t low lt =
      let has : ℕ → ℕ = λ u. class_count classes j (events_of r.events u) in
      are.weighed j (λ u. cond (t == u) 1 0) low
      ∙ sum_by_each (λ u. has u * cond (t == u) 1 0) (λ u. cond (t == u) (has u) 0) (before (length r.threads)) (λ u. one_times (t == u) (has u))
      ∙ sum_by_at t has (length r.threads) lt

  -- the weights that were made of them
  pub weights_are : (j : ℕ) → j < n → (v : Vec (ℕ × ℕ) Global) (now : List (ℕ × ℕ)) (made weights : List ℕ) (m : ℕ) → slice_get spread j ≡ Some v → now ≡ v.items → weights ≡ made → m ≡ length r.threads
      → ((t : ℕ) → t < m → slice_index made t ≡ weighed_sum (λ u. cond (t == u) 1 0) now) → (t : ℕ) → t < length r.threads → slice_index weights t ≡ class_count classes j (events_of r.events t)
  weights_are j low v now made weights m at is same threads told t lt =
      ap (λ ws. slice_index ws t) same
      ∙ told t (omega (arith, lt, threads))
      ∙ ap (weighed_sum (λ u. cond (t == u) 1 0)) (entries_now spread j v now at is)
      ∙ weight_is j t low lt

  -- all entries
  pub entries_few : (j : ℕ) → j < n → weighed_sum (λ t. 1) (entries_at spread j) ≤ 1048576
  entries_few j low =
      let all : weighed_sum (λ t. 1) (entries_at spread j) ≡ total_count r.events (length r.threads) classes j =
      are.weighed j (λ t. 1) low
      ∙ sum_by_each (λ t. class_count classes j (events_of r.events t) * 1) (λ t. class_count classes j (events_of r.events t)) (before (length r.threads)) (λ t. omega arith)
      in
      let few = total_few r formed classes j in
      omega (arith, all, few)

  module _ (totals weights : List ℕ) (j times : ℕ) (low : j < n) (sums : (c : ℕ) → c < n → slice_index totals c ≡ total_count r.events (length r.threads) classes c)
      (mine : (t : ℕ) → t < length r.threads → slice_index weights t ≡ class_count classes j (events_of r.events t)) (all : times ≡ slice_index totals j) where
    same_is : (c : ℕ) → c < n → weighed_sum (slice_index weights) (entries_at spread c) ≡ same_thread r.events (length r.threads) classes j c
    same_is c lt =
        are.weighed c (slice_index weights) lt
        ∙ sum_by_below (λ t. class_count classes c (events_of r.events t) * slice_index weights t) (λ t. class_count classes c (events_of r.events t) * class_count classes j (events_of r.events t)) (length r.threads)
        (λ t named. ap (λ m. class_count classes c (events_of r.events t) * m) (mine t named))

    product_is : (c : ℕ) → c < n → times * slice_index totals c ≡ total_count r.events (length r.threads) classes j * total_count r.events (length r.threads) classes c
    product_is c lt = ap (λ m. m * slice_index totals c) (all ∙ sums j low) ∙ ap (λ m. total_count r.events (length r.threads) classes j * m) (sums c lt)

    pub same_le : (c : ℕ) → c < n → weighed_sum (slice_index weights) (entries_at spread c) ≤ times * slice_index totals c
    same_le c lt =
        let same = same_is c lt in
        let product = product_is c lt in
        let whole = two_all r.events (length r.threads) classes j c in
        omega (arith, same, product, whole)

    pub product_few : (c : ℕ) → c < n → times * slice_index totals c ≤ 1099511627776
    product_few c lt =
        let fits = total_fits (total_count r.events (length r.threads) classes j) (total_count r.events (length r.threads) classes c) (total_few r formed classes j) (total_few r formed classes c) in
        let product = product_is c lt in
        omega (arith, fits, product)

    pub total_is : (k : Part) (c : ℕ) → c < n → total_of totals spread weights times j k c ≡ at_greater j c (two_sum r.events (length r.threads) classes (total_ends r.events k) j c)
    total_is of_all c lt =
        let same = same_is c lt in
        let product = product_is c lt in
        let whole = two_all r.events (length r.threads) classes j c in
        let is : pairs_of totals spread weights times c ≡ two_sum r.events (length r.threads) classes (whole_ends r.events) j c = omega (arith, same, product, whole) in
        ap (at_greater j c) is
    total_is of_candidates c lt = sym (ap (at_greater j c) (two_none r.events (length r.threads) classes j c) ∙ greater_nothing j c)
    total_is of_ordered c lt = sym (ap (at_greater j c) (two_none r.events (length r.threads) classes j c) ∙ greater_nothing j c)
    total_is of_guarded c lt = sym (ap (at_greater j c) (two_none r.events (length r.threads) classes j c) ∙ greater_nothing j c)

    part_le : (k : Part) (c : ℕ) → total_of totals spread weights times j k c ≤ pairs_of totals spread weights times c * 2
    part_le of_all c = greater_le j c (pairs_of totals spread weights times c)
    part_le of_candidates c = omega arith
    part_le of_ordered c = omega arith
    part_le of_guarded c = omega arith

    -- what it adds fits
    pub totals_fit : (infos : List Class) → length infos ≡ n → length infos ≤ 1048576 → (x : ℕ) (op : Op) (members : List ℕ) → AreConflicting infos x op members
        → (k : Part) → sum_by (total_of totals spread weights times j k) members ≤ 2305843009213693952
    totals_fit infos len few x op members conflict k =
        let pairs : ℕ → ℕ = pairs_of totals spread weights times in
        let less = sum_by-le-sum_by (total_of totals spread weights times j k) (λ c. pairs c * 2) members (part_le k) in
        let twice = sum_by-times pairs 2 members in
        let fits = members_fit infos x op pairs members few
        (λ c within.
        let small = product_few c (omega (arith, within, len)) in
        omega (arith, small))
        conflict
        in
        omega (arith, less, twice, fits)

-- which of two operations comes first does not matter to whether they clash
same_number : (x y : ℕ) → (x == y) ≡ (y == x)
same_number x y = same_tests (x == y) (y == x) (λ h. eq-eqb y x (sym (eqb-true x y h))) (λ h. eq-eqb x y (sym (eqb-true y x h)))

or_none : (b : Bool) → (b || false) ≡ b
or_none true = refl
or_none false = refl

clash_turned : (o k : Op) → is_clash_of_ops o k ≡ is_clash_of_ops k o
clash_turned (Read x) (Write y) = same_number y x ∙ sym (or_none (x == y))
clash_turned (Write x) (Read y) = or_none (y == x) ∙ same_number y x
clash_turned (Write x) (Write y) = same_number y x
clash_turned (Read x) (Read y) = refl
clash_turned (Read x) k = refl
clash_turned (Write x) k = refl
clash_turned o (Read y) = refl
clash_turned o (Write y) = refl
clash_turned (Acquire l) (Acquire m) = refl
clash_turned (Acquire l) (Release m) = refl
clash_turned (Acquire l) (Fork u) = refl
clash_turned (Acquire l) (Join u) = refl
clash_turned (Release l) (Acquire m) = refl
clash_turned (Release l) (Release m) = refl
clash_turned (Release l) (Fork u) = refl
clash_turned (Release l) (Join u) = refl
clash_turned (Fork t) (Acquire m) = refl
clash_turned (Fork t) (Release m) = refl
clash_turned (Fork t) (Fork u) = refl
clash_turned (Fork t) (Join u) = refl
clash_turned (Join t) (Acquire m) = refl
clash_turned (Join t) (Release m) = refl
clash_turned (Join t) (Fork u) = refl
clash_turned (Join t) (Join u) = refl

module _ (lists : List (Vec ℕ Global)) (p q : ℕ) where
  -- nor does it matter of which class a pair is looked at
  adds_turned : (o k : Option Class) → adds_both (keeps lists of_all) p q o k ≡ adds_both (keeps lists of_all) p q k o
  adds_turned None None = refl
  adds_turned None (Some i) = refl
  adds_turned (Some j) None = refl
  adds_turned (Some j) (Some i) =
      ap (λ b. b && true && is_between p q i.place j.place) (clash_turned i.op j.op) ∙ ap (λ b. is_clash_of_ops j.op i.op && true && b) (between_turned p q i.place j.place)

  -- a class that accesses nothing adds nothing
  never : (keep : Class → Class → Bool) (j : Class) (o : Option Class) (n : ℕ) → ((x : ℕ) → is_access x j.op ≡ false) → cond (adds_to keep p q j o) n 0 ≡ 0
  never keep j o n none = ap (λ b. cond b n 0) (false_from_ne_true (adds_to keep p q j o) (none_added keep p q j o none))

  pub total_none : (T : List Event) (keep : Class → Class → Bool) (classes : List ℕ) (infos : List Class) (threads : ℕ) (end : ℕ → ℕ → ℕ) (j : ℕ) (info : Class) → slice_get infos j ≡ Some info
      → ((x : ℕ) → is_access x info.op ≡ false) → total_sum T keep classes infos threads end p q j ≡ 0
  total_none T keep classes infos threads end j info at none =
      sum_by_each (λ c. cond (adds_both keep p q (slice_get infos j) (slice_get infos c)) (at_greater j c (two_sum T threads classes end j c)) 0) (λ c. 0) (before (length infos))
      (λ c.
      ap (λ o. cond (adds_both keep p q o (slice_get infos c)) (at_greater j c (two_sum T threads classes end j c)) 0) at
      ∙ never keep info (slice_get infos c) (at_greater j c (two_sum T threads classes end j c)) none)
      ∙ sum_by_zero (before (length infos))

-- one class and all threads
module _ (r : Recording) (formed : IsWellFormed r) (classes : List ℕ) (infos : List Class) (len : length classes ≡ length r.events) (within : All (λ c. c < length infos) classes) (keep : Class → Class → Bool) (p q : ℕ) (k : Part) where
  -- what a class has with another
  abbrev both_of : ℕ → ℕ → ℕ
  both_of j c = cond (adds_both keep p q (slice_get infos j) (slice_get infos c)) (two_sum r.events (length r.threads) classes (total_ends r.events k) j c) 0

  class_all : (j : ℕ) → j < length infos
      → sum_by (λ u. class_sum r.events keep classes infos u (total_ends r.events k) p q j) (before (length r.threads)) ≡ sum_by (both_of j) (before (length infos))
  class_all j low =
      let T = r.events in
      let threads = length r.threads in
      let end = total_ends T k in
      let info = get_or infos j some_class in
      let at : slice_get infos j ≡ Some info = slice_get-get_or infos j some_class low in
      let term : ℕ → ℕ → ℕ = λ u c. share_of keep p q info infos (λ m. below_sum T threads classes u end j m (events_of T u)) c in
      sum_by_below (λ u. class_sum T keep classes infos u end p q j) (λ u. sum_by (term u) (before (length infos))) threads
      (λ u named. sym (class_whole r formed classes infos u j info keep p q end at len within (total_within T k) named (λ m. below_sum T threads classes u end j m (events_of T u)) (events_of-within T u) (λ m inside. refl)))
      ∙ sum_by_turned term (before threads) (before (length infos))
      ∙ sum_by_each (λ c. sum_by (λ u. term u c) (before threads)) (both_of j) (before (length infos))
      (λ c.
      sym (sum_by_if (adds_to keep p q info (slice_get infos c)) (λ u. below_sum T threads classes u end j c (events_of T u)) (before threads))
      ∙ ap (λ o. cond (adds_both keep p q o (slice_get infos c)) (two_sum T threads classes end j c) 0) (sym at))

  module _ (turned : (j c : ℕ) → both_of j c ≡ both_of c j) where
    pub totals_all : sum_by (total_sum r.events keep classes infos (length r.threads) (total_ends r.events k) p q) (before (length infos))
        ≡ threads_sum r.events keep classes infos (total_ends r.events k) p q (length r.threads)
    totals_all =
        let T = r.events in
        let threads = length r.threads in
        let n = length infos in
        let end = total_ends T k in
        sum_by_each (total_sum T keep classes infos threads end p q) (λ j. sum_by (λ c. at_greater j c (both_of j c)) (before n)) (before n)
        (λ j. sum_by_each (λ c. cond (adds_both keep p q (slice_get infos j) (slice_get infos c)) (at_greater j c (two_sum T threads classes end j c)) 0) (λ c. at_greater j c (both_of j c)) (before n)
        (λ c. greater_if (adds_both keep p q (slice_get infos j) (slice_get infos c)) j c (two_sum T threads classes end j c)))
        ∙ greater_all both_of turned n
        ∙ sum_by_below (λ j. sum_by (both_of j) (before n)) (λ j. sum_by (λ u. class_sum T keep classes infos u end p q j) (before threads)) n (λ j low. sym (class_all j low))
        ∙ sum_by_turned (λ j u. class_sum T keep classes infos u end p q j) (before n) (before threads)
        ∙ sum_by_each (λ u. sum_by (class_sum T keep classes infos u end p q) (before n)) (thread_sum T keep classes infos end p q) (before threads)
        (λ u. classes_all T keep classes infos u end p q len within)

  -- what the code adds for a class
  pub class_adds : (j x : ℕ) (info : Class) (amounts : ℕ → ℕ) (members : List ℕ) → slice_get infos j ≡ Some info → is_access x info.op ≡ true → AreConflicting infos x info.op members
      → ((c : ℕ) → c < length infos → amounts c ≡ at_greater j c (two_sum r.events (length r.threads) classes (total_ends r.events k) j c))
      → sum_by (share_of keep p q info infos amounts) members ≡ total_sum r.events keep classes infos (length r.threads) (total_ends r.events k) p q j
  class_adds j x info amounts members at accessed conflict is =
      let T = r.events in
      let threads = length r.threads in
      let end = total_ends T k in
      conflicting_all keep p q info infos amounts x members conflict
      ∙ members_all keep p q info infos amounts x accessed
      ∙ sum_by_below (share_of keep p q info infos amounts) (λ c. cond (adds_both keep p q (slice_get infos j) (slice_get infos c)) (at_greater j c (two_sum T threads classes end j c)) 0) (length infos)
      (λ c low.
      ap (λ m. cond (adds_to keep p q info (slice_get infos c)) m 0) (is c low)
      ∙ ap (λ o. cond (adds_both keep p q o (slice_get infos c)) (at_greater j c (two_sum T threads classes end j c)) 0) (sym at))

-- which of two classes comes first does not matter
module _ (r : Recording) (classes : List ℕ) (infos : List Class) (lists : List (Vec ℕ Global)) (p q : ℕ) where
  none_both : (b d : Bool) (n m : ℕ) → n ≡ 0 → m ≡ 0 → cond b n 0 ≡ cond d m 0
  none_both b d n m e f = ap (λ x. cond b x 0) e ∙ cond_none b ∙ sym (ap (λ x. cond d x 0) f ∙ cond_none d)

  pub both_turned : (k : Part) (j c : ℕ) → cond (adds_both (keeps lists k) p q (slice_get infos j) (slice_get infos c)) (two_sum r.events (length r.threads) classes (total_ends r.events k) j c) 0
      ≡ cond (adds_both (keeps lists k) p q (slice_get infos c) (slice_get infos j)) (two_sum r.events (length r.threads) classes (total_ends r.events k) c j) 0
  both_turned of_all j c =
      ap (λ b. cond b (two_sum r.events (length r.threads) classes (whole_ends r.events) j c) 0) (adds_turned lists p q (slice_get infos j) (slice_get infos c))
      ∙ ap (λ n. cond (adds_both (keeps lists of_all) p q (slice_get infos c) (slice_get infos j)) n 0) (two_turned r.events (length r.threads) classes j c)
  both_turned of_candidates j c = none_both _ _ _ _ (two_none r.events (length r.threads) classes j c) (two_none r.events (length r.threads) classes c j)
  both_turned of_ordered j c = none_both _ _ _ _ (two_none r.events (length r.threads) classes j c) (two_none r.events (length r.threads) classes c j)
  both_turned of_guarded j c = none_both _ _ _ _ (two_none r.events (length r.threads) classes j c) (two_none r.events (length r.threads) classes c j)

  -- a class and those before it add no more than all
  pub total_part : IsWellFormed r → length classes ≡ length r.events → All (λ c. c < length infos) classes → (k : Part) (j : ℕ) → j < length infos
      → sum_by (total_sum r.events (keeps lists k) classes infos (length r.threads) (total_ends r.events k) p q) (before j)
      + total_sum r.events (keeps lists k) classes infos (length r.threads) (total_ends r.events k) p q j
      ≤ threads_sum r.events (keeps lists k) classes infos (total_ends r.events k) p q (length r.threads)
  total_part formed len within k j low =
      let part = sum_by_below-le (total_sum r.events (keeps lists k) classes infos (length r.threads) (total_ends r.events k) p q) j (length infos) low in
      let whole = totals_all r formed classes infos len within (keeps lists k) p q k (both_turned k) in
      omega (arith, part, whole)
