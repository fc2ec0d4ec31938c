-- Tables of names.
use Rattle.std.proofs.Common.{◌≡◌, ℕ, zero, suc, ◌+◌, ◌-◌, ◌<◌, ◌≤◌, ◌==◌, ◌&&◌, ◌||◌, Bool, true, false, not, cond, List, [], ◌∷◌, ◌++◌, length, drop, take, map, flat_map, get_or, slice_index_or, add-one, bytes_eq, Vec, Some, slice_get, refl, sym, ap, ap₂, ◌∙◌, subst, arith, inl, inr}
use Rattle.std.specs.List.{AllByRecursion, IsDistinct, list_any, position_or_len}
use Rattle.std.specs.Cmp.Lexicographic.{bytes_decides}
use Rattle.std.proofs.lemmas.Bool.{and_parts, cases_Bool, cases_eq, cases_lt, or_left, or_right, false≢true}
use Rattle.std.proofs.Math.Seq.{drop-append_seam}
use Rattle.std.proofs.lemmas.List.{get_or_default, get_or_past, length-append, length-map, take_all, take_more}
use Rattle.std.proofs.lemmas.List.Folds.{list_any-append, list_any_at}
use Rattle.std.specs.Option.{option_map}
use Rattle.std.proofs.lemmas.Option.{slice_get_within, slice_get-map, get_or_from_slice_get}
use Rattle.rapid_text.specs.Canonical.{name_at}
use Rattle.rapid_text.specs.Reading.{NamedEvent, name_where, number_of, numbered, recording_of, thread_uses}
use Rattle.rapid_text.specs.Recording.{Recording}
use Rattle.rapid_text.specs.declared.event.Event.{Event}
use Rattle.rapid_text.proofs.NameNumbers.{has, bytes_eq-refl, name_at-number_of}
use Rattle.event_index.specs.Lookups.{before}
use Rattle.event_index.specs.Tables.{IsTable}
use Rattle.event_index.proofs.TableLemmas.{get_or-IsTable}
use Rattle.event_index.proofs.CallerLemmas.{before_more}
use Rattle.window.specs.HeadText.{first_name, first_outside}
use Rattle.window.specs.Made.{part_of}
use Rattle.window.specs.Streams.{IsHeldText, IsNext, Past, by_numbers, is_named, names_forked, names_joined, said_in}
use Rattle.window.specs.Tables.{found_name, has_fork, has_join, has_thread}
use Rattle.window.proofs.UsesLemmas.{forks_at, forks_among, joins_among, joins_at, own_among, own_at}
use Rattle.rapid_text.specs.Operations.{is_fork, is_join}
use Rattle.window.proofs.NameLemmas.{distinct_first_uses, has_at, number_at, number_within}
use Rattle.window.proofs.NumberLemmas.{numbering-right, numbering-self}
use Rattle.window.proofs.StreamLemmas.{numbers_append}

-- a test of names, in a table of them
pub any-items : {A : Type 0} (p : List ℕ → Bool) (keys : List (Vec ℕ A)) → list_any (λ (v : Vec ℕ A). p v.items) keys ≡ list_any p (map (λ (v : Vec ℕ A). v.items) keys)
any-items p [] = refl
any-items p (key ∷ keys) = ap (λ b. p key.items || b) (any-items p keys)

-- which names are noted, once one more is
pub has_noted : (names : List (List ℕ)) (name other : List ℕ) → has (cond (has names name) names (names ++ name ∷ [])) other ≡ (has names other || bytes_eq other name)
has_noted names name other =
    elim (cases_Bool (has names name)) [
      | inl found ↦ ap (λ (b : Bool). has (cond b names (names ++ name ∷ [])) other) found ∙ elim (cases_Bool (bytes_eq other name)) [
        | inl same ↦
            let is : other ≡ name = (bytes_decides other name).0 same in
            ap (has names) is ∙ found ∙ sym (or_right (has names other) (bytes_eq other name) same)
        | inr apart ↦ without (has names other) (bytes_eq other name) apart
      ]
      | inr none ↦
          ap (λ (b : Bool). has (cond b names (names ++ name ∷ [])) other) none
          ∙ list_any-append (bytes_eq other) names (name ∷ [])
          ∙ ap (λ b. has names other || b) (last (bytes_eq other name))
    ]
  where
    without : (a b : Bool) → b ≡ false → a ≡ (a || b)
    without true b is = refl
    without false b is = sym is

    last : (b : Bool) → (b || false) ≡ b
    last true = refl
    last false = refl

or_assoc : (a b c : Bool) → ((a || b) || c) ≡ (a || (b || c))
or_assoc true b c = refl
or_assoc false b c = refl

-- noting one more of a list
pub noted_more : (new cur old all : List (List ℕ)) (name : List ℕ) (i : ℕ) (d : List ℕ)
    → ((other : List ℕ) → has new other ≡ (has cur other || bytes_eq other name))
    → ((other : List ℕ) → has cur other ≡ (has old other || has (take i all) other))
    → i < length all → get_or all i d ≡ name
    → (other : List ℕ) → has new other ≡ (has old other || has (take (i + 1) all) other)
noted_more new cur old all name i d one before lt at other =
    one other
    ∙ ap (λ b. b || bytes_eq other name) (before other)
    ∙ or_assoc (has old other) (has (take i all) other) (bytes_eq other name)
    ∙ ap (λ b. has old other || b)
    (ap (λ b. has (take i all) other || b) (last (bytes_eq other name))
    ∙ sym (ap (λ (ns : List (List ℕ)). has ns other) (take_more all i d lt ∙ ap (λ (n : List ℕ). take i all ++ n ∷ []) at)
    ∙ list_any-append (bytes_eq other) (take i all) (name ∷ [])))
  where
    last : (b : Bool) → b ≡ (b || false)
    last true = refl
    last false = refl

-- noting a thread that was found
pub found_more : (names : List (List ℕ)) (test : ℕ → Bool) (new cur old : List (List ℕ)) (i : ℕ) (asked : Bool) (name : List ℕ)
    → ((other : List ℕ) → has new other ≡ (has cur other || (asked && bytes_eq other name)))
    → ((other : List ℕ) → has cur other ≡ (has old other || found_name names test i other))
    → asked ≡ test i → name ≡ name_at names i
    → (other : List ℕ) → has new other ≡ (has old other || found_name names test (i + 1) other)
found_more names test new cur old i asked name one so_far asks at other =
    let p : ℕ → Bool = λ t. test t && bytes_eq other (name_at names t) in
    one other
    ∙ ap₂ (λ a b. a || b) (so_far other) (ap₂ (λ (a : Bool) (n : List ℕ). a && bytes_eq other n) asks at)
    ∙ or_assoc (has old other) (found_name names test i other) (p i)
    ∙ ap (λ b. has old other || b)
    (ap (λ b. found_name names test i other || b) (last (p i))
    ∙ sym (ap (list_any p) (before_more i) ∙ list_any-append p (before i) (i ∷ [])))
  where
    last : (b : Bool) → b ≡ (b || false)
    last true = refl
    last false = refl

-- a name at a place is there
pub has_item : {A : Type 0} (keys : List (Vec ℕ A)) (i : ℕ) (v : Vec ℕ A) → slice_get keys i ≡ Some v → has (map (λ (v : Vec ℕ A). v.items) keys) v.items ≡ true
has_item keys i v at =
    sym (any-items (bytes_eq v.items) keys)
    ∙ list_any_at (λ (w : Vec ℕ _). bytes_eq v.items w.items) keys i v (slice_get_within keys i v at)
    (ap (λ (w : Vec ℕ _). bytes_eq v.items w.items) (get_or_from_slice_get keys i v v at) ∙ bytes_eq-refl v.items)

-- the name at a place of a table
pub table_name : {A : Type 0} (keys : List (Vec ℕ A)) (i : ℕ) (v : Vec ℕ A) → slice_get keys i ≡ Some v → (name : List ℕ) → name ≡ v.items
    → get_or (map (λ (w : Vec ℕ A). w.items) keys) i [] ≡ name
table_name keys i v at name is =
    let items = map (λ (w : Vec ℕ _). w.items) keys in
    let there : slice_get items i ≡ Some v.items = slice_get-map (λ (w : Vec ℕ _). w.items) keys i ∙ ap (option_map (λ (w : Vec ℕ _). w.items)) at in
    get_or_from_slice_get items i v.items [] there ∙ sym is

-- the first of some names is one of them
pub first_is : (names : List (List ℕ)) → 0 < length names → has names (first_name names) ≡ true
first_is names some = has_at names 0 some

-- the first that is none of the others is one of the names
pub outside_is : (names others : List (List ℕ)) → 0 < length names → has names (first_outside names others) ≡ true
outside_is names others some =
    let i : ℕ = position_or_len (λ name. not (is_named others name)) names in
    elim (cases_lt i (length names)) [
      | inl lt ↦ subst (λ (name : List ℕ). has names name ≡ true) (get_or_default names i [] (first_name names) lt) (has_at names i lt)
      | inr ge ↦ subst (λ (name : List ℕ). has names name ≡ true) (sym (get_or_past names i (first_name names) ge)) (first_is names some)
    ]

-- one name more that is one of the others
pub outside_more : (names others : List (List ℕ)) (i : ℕ) (name : List ℕ) → get_or names i [] ≡ name → is_named others name ≡ true
    → ((k : ℕ) → k < i → is_named others (get_or names k []) ≡ true) → (k : ℕ) → k < i + 1 → is_named others (get_or names k []) ≡ true
outside_more names others i name at here before k lt =
    elim (cases_lt k i) [
      | inl below ↦ before k below
      | inr over ↦
          let same : i ≡ k = omega (arith, lt, over) in
          subst (λ (j : ℕ). is_named others (get_or names j []) ≡ true) same (ap (is_named others) at ∙ here)
    ]

-- noting one more name of a table
pub noted_item : {A : Type 0} (new cur old : List (List ℕ)) (keys : List (Vec ℕ A)) (i : ℕ) (v : Vec ℕ A) → slice_get keys i ≡ Some v → (name : List ℕ) → name ≡ v.items
    → ((other : List ℕ) → has new other ≡ (has cur other || (true && bytes_eq other name)))
    → ((other : List ℕ) → has cur other ≡ (has old other || has (take i (map (λ (w : Vec ℕ A). w.items) keys)) other))
    → (other : List ℕ) → has new other ≡ (has old other || has (take (i + 1) (map (λ (w : Vec ℕ A). w.items) keys)) other)
noted_item new cur old keys i v at name is one before =
    let items = map (λ (w : Vec ℕ _). w.items) keys in
    let there : slice_get items i ≡ Some v.items = slice_get-map (λ (w : Vec ℕ _). w.items) keys i ∙ ap (option_map (λ (w : Vec ℕ _). w.items)) at in
    noted_more new cur old items name i [] one before (slice_get_within items i v.items there) (get_or_from_slice_get items i v.items [] there ∙ sym is)

-- Tests of the numbers below another.
any_below : (p : ℕ → Bool) (n t : ℕ) → t < n → p t ≡ true → list_any p (before n) ≡ true
any_below p zero t lt is = absurd (omega (arith, lt))
any_below p (suc n) t lt is =
    subst (λ (i : ℕ). list_any p (before i) ≡ true) (add-one n)
    (ap (list_any p) (before_more n) ∙ list_any-append p (before n) (n ∷ [])
    ∙ elim (cases_eq t n) [
      | inl same ↦ or_right (list_any p (before n)) (p n || false) (or_left (p n) false (ap p (sym same) ∙ is))
      | inr other ↦ or_left (list_any p (before n)) (p n || false) (any_below p n t (omega (arith, lt, other)) is)
    ])

below_any : (p : ℕ → Bool) (n : ℕ) → list_any p (before n) ≡ true → (t : ℕ) × (t < n) × (p t ≡ true)
below_any p zero here = absurd (false≢true here)
below_any p (suc n) here =
    let both : (list_any p (before n) || (p n || false)) ≡ true =
    sym (ap (list_any p) (before_more n) ∙ list_any-append p (before n) (n ∷ [])) ∙ subst (λ (i : ℕ). list_any p (before i) ≡ true) (sym (add-one n)) here in
    elim (cases_Bool (list_any p (before n))) [
      | inl found ↦ let (t, low, is) = below_any p n found in (t, omega (arith, low), is)
      | inr none ↦ elim (cases_Bool (p n)) [
        | inl found ↦ (n, omega arith, found)
        | inr also ↦ absurd (false≢true (sym (ap₂ (λ a b. a || (b || false)) none also) ∙ both))
      ]
    ]

-- the names of the numbers at which events of a piece pass are those that the piece uses
module _ (C P : List NamedEvent) (p : ℕ → Event → Bool) (uses : NamedEvent → List (List ℕ))
    (at : (x : List ℕ) → has (recording_of (C ++ P)).threads x ≡ true
    → list_any (p (number_of (recording_of (C ++ P)).threads x)) (by_numbers (recording_of (C ++ P)) P) ≡ has (flat_map uses P) x)
    (among : (x : List ℕ) → has (flat_map uses P) x ≡ true → has (thread_uses P) x ≡ true) where
  abbrev R : Recording
  R = recording_of (C ++ P)

  each : IsDistinct bytes_eq R.threads
  each = distinct_first_uses (thread_uses (C ++ P))

  part_is : part_of R.events (length C) (length R.events) ≡ by_numbers R P
  part_is =
      let long : length (by_numbers R C) ≡ length C = length-map C (numbered R.threads R.variables R.locks) in
      let rest : drop (length C) R.events ≡ by_numbers R P =
      ap (λ (i : ℕ). drop i R.events) (sym long) ∙ ap (drop (length (by_numbers R C))) (numbers_append R C P) ∙ drop-append_seam (by_numbers R C) (by_numbers R P) in
      let all : length (by_numbers R P) ≤ length R.events - length C =
      omega (arith, long, ap (λ (es : List Event). length es) (numbers_append R C P), length-append (by_numbers R C) (by_numbers R P)) in
      ap (take (length R.events - length C)) rest ∙ take_all (length R.events - length C) (by_numbers R P) all

  pub found_is : (x : List ℕ) → found_name R.threads (λ t. list_any (p t) (part_of R.events (length C) (length R.events))) (length R.threads) x ≡ has (flat_map uses P) x
  found_is x =
      let q : ℕ → Bool = λ t. list_any (p t) (part_of R.events (length C) (length R.events)) && bytes_eq x (name_at R.threads t) in
      elim (cases_Bool (has (flat_map uses P) x)) [
        | inl used ↦
            let known : has R.threads x ≡ true = (numbering-right R C P (numbering-self (C ++ P))).threads x (among x used) in
            let t : ℕ = number_of R.threads x in
            let passes : list_any (p t) (part_of R.events (length C) (length R.events)) ≡ true = ap (list_any (p t)) part_is ∙ at x known ∙ used in
            let named : bytes_eq x (name_at R.threads t) ≡ true = ap (bytes_eq x) (name_at-number_of R.threads x known) ∙ bytes_eq-refl x in
            any_below q (length R.threads) t (number_within R.threads x known) (ap₂ (λ a b. a && b) passes named) ∙ sym used
        | inr unused ↦ elim (cases_Bool (list_any q (before (length R.threads)))) [
          | inl found ↦
              let (t, low, is) = below_any q (length R.threads) found in
              let both = and_parts (list_any (p t) (part_of R.events (length C) (length R.events))) (bytes_eq x (name_at R.threads t)) is in
              let same : x ≡ name_at R.threads t = (bytes_decides x (name_at R.threads t)).0 both.1 in
              let known : has R.threads x ≡ true = ap (has R.threads) same ∙ has_at R.threads t low in
              let number : number_of R.threads x ≡ t = ap (number_of R.threads) same ∙ number_at R.threads t each low in
              let used : has (flat_map uses P) x ≡ true =
              sym (at x known) ∙ ap (λ (i : ℕ). list_any (p i) (by_numbers R P)) number ∙ ap (list_any (p t)) (sym part_is) ∙ both.0 in
              absurd (false≢true (sym unused ∙ used))
          | inr none ↦ none ∙ sym unused
        ]
      ]

-- What is kept after the events of a piece.
pub next_is : (past next : Past) (head more : List ℕ) (r : Recording) (from : ℕ) → r ≡ recording_of (said_in head ++ said_in more) → from ≡ length (said_in head)
    → ((name : List ℕ) → has next.forked name ≡ (has past.forked name || found_name r.threads (has_fork r.events from (length r.events)) (length r.threads) name))
    → ((name : List ℕ) → has next.seen name ≡ (has past.seen name || found_name r.threads (has_thread r.events from (length r.events)) (length r.threads) name))
    → ((name : List ℕ) → has next.joined name ≡ (has past.joined name || found_name r.threads (has_join r.events from (length r.events)) (length r.threads) name))
    → IsHeldText r next.held → IsNext past next r more
next_is past next head more r from is place forked seen joined held =
    let C = said_in head in
    let P = said_in more in
    let R = recording_of (C ++ P) in
    let among : (name : List ℕ) → has (thread_uses P) name ≡ true → has R.threads name ≡ true = (numbering-right R C P (numbering-self (C ++ P))).threads in
    let here = λ (test : List Event → ℕ → ℕ → ℕ → Bool) (name : List ℕ).
    ap₂ (λ (s : Recording) (i : ℕ). found_name s.threads (test s.events i (length s.events)) (length s.threads) name) is place in
    record {
      forked = λ name. forked name ∙ ap (λ b. has past.forked name || b)
          (here has_fork name ∙ found_is C P (λ t v. is_fork t v.op) (name_where names_forked) (λ x known. forks_at R x known P among) (forks_among P) name);
      seen = λ name. seen name ∙ ap (λ b. has past.seen name || b)
          (here has_thread name ∙ found_is C P (λ t v. v.thread == t) (λ e. e.thread ∷ []) (λ x known. own_at R x known P among) (own_among P) name);
      joined = λ name. joined name ∙ ap (λ b. has past.joined name || b)
          (here has_join name ∙ found_is C P (λ t v. is_join t v.op) (name_where names_joined) (λ x known. joins_at R x known P among) (joins_among P) name);
      held = held;
    }

-- tests that agree below a number
same_below : (p q : ℕ → Bool) (n : ℕ) → ((t : ℕ) → t < n → p t ≡ q t) → list_any p (before n) ≡ list_any q (before n)
same_below p q zero same = refl
same_below p q (suc n) same =
    subst (λ (i : ℕ). list_any p (before i) ≡ list_any q (before i)) (add-one n)
    (ap (list_any p) (before_more n) ∙ list_any-append p (before n) (n ∷ [])
    ∙ ap₂ (λ a b. a || (b || false)) (same_below p q n (λ t lt. same t (omega (arith, lt)))) (same n (omega arith))
    ∙ sym (ap (list_any q) (before_more n) ∙ list_any-append q (before n) (n ∷ [])))

-- what a table says of the numbers of a name
pub found_table : (names : List (List ℕ)) (test : ℕ → Bool) (n : ℕ) (flags : List Bool) (x : List ℕ) → IsTable test n flags
    → found_name names (λ t. slice_index_or flags t false) n x ≡ found_name names test n x
found_table names test n flags x table =
    same_below (λ t. slice_index_or flags t false && bytes_eq x (name_at names t)) (λ t. test t && bytes_eq x (name_at names t)) n
    (λ t lt. ap (λ b. b && bytes_eq x (name_at names t)) (get_or-IsTable test n flags table t false lt))

-- a name that no key is, no item of a key is
apart_items : {A : Type 0} (x : List ℕ) (keys : List (Vec ℕ A)) → AllByRecursion (λ (w : Vec ℕ A). bytes_eq x w.items ≡ false) keys
    → AllByRecursion (λ (y : List ℕ). bytes_eq x y ≡ false) (map (λ (w : Vec ℕ A). w.items) keys)
apart_items x [] all = tt
apart_items x (w ∷ keys) all = (all.0, apart_items x keys all.1)

-- a table has each name once
pub distinct_items : {A : Type 0} (keys : List (Vec ℕ A)) → IsDistinct (λ (v w : Vec ℕ A). bytes_eq v.items w.items) keys
    → IsDistinct bytes_eq (map (λ (v : Vec ℕ A). v.items) keys)
unfolding IsDistinct
distinct_items [] distinct = tt
distinct_items (key ∷ keys) distinct = (apart_items key.items keys distinct.0, distinct_items keys distinct.1)

-- the name at a place
pub item_at : {A : Type 0} (keys : List (Vec ℕ A)) (i : ℕ) (v : Vec ℕ A) → slice_get keys i ≡ Some v → (name : List ℕ) → name ≡ v.items
    → slice_get (map (λ (w : Vec ℕ A). w.items) keys) i ≡ Some name
item_at keys i v at name is =
    slice_get-map (λ (w : Vec ℕ _). w.items) keys i ∙ ap (option_map (λ (w : Vec ℕ _). w.items)) at ∙ ap Some (sym is)
