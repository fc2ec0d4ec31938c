-- Tries of two lists, put together.
use Rattle.std.proofs.Common.{◌≡◌, ◌≢◌, ◌⊎◌, ℕ, ◌+◌, ◌<◌, ◌≤◌, List, length, All, AllPairs, Contains, get_or, refl, sym, ap, ◌∙◌, subst, inl, inr, arith}
use Rattle.std.proofs.lemmas.Bool.{cases_eq, cases_lt, cases_order}
use Rattle.std.proofs.lemmas.List.{get_or_default}
use Rattle.std.proofs.lemmas.List.Elements.{Contains-get_or, All-contains, All-contains_itself, All-weaker}
use Rattle.indexmap.proofs.IndexTableLemmas.Probe.{pigeonhole}
use Rattle.race_groups.specs.least_pairs.Joining.{AreTriesJoined}
use Rattle.race_groups.specs.least_pairs.Order.{IsUpTo}
use Rattle.race_groups.specs.least_pairs.Taking.{AreTries, HoldsTry, IsTryNoted}
use Rattle.race_groups.specs.declared.least_pairs.tries.Between.{Between}
use Rattle.race_groups.specs.declared.least_pairs.tries.Try.{Try}
use Rattle.race_groups.proofs.least_pairs.HeldLemmas.{HoldsTry-later}
use Rattle.race_groups.proofs.least_pairs.OrderLemmas.{IsUpTo-trans}

-- a pair stands no later than another, or not
up_or_not : (p q : ℕ × ℕ) → IsUpTo p q ⊎ (IsUpTo p q → ⊥)
up_or_not p q = elim (cases_order p.0 q.0) [
  | inl same ↦ elim (cases_lt q.1 p.1) [
    | inl gt ↦ inr (λ up. elim up [ inl a ↦ omega (arith, a, same) | inr b ↦ omega (arith, b.1, gt) ])
    | inr le ↦ inl (inr (same, le))
  ]
  | inr (inl lt) ↦ inl (inl lt)
  | inr (inr gt) ↦ inr (λ up. elim up [ inl a ↦ omega (arith, a, gt) | inr b ↦ omega (arith, b.0, gt) ])
]

abbrev no_try : Try
no_try = record { between = record { variable = 0; earlier = 0; later = 0 }; pair = (0, 0) }

-- Where each try of a list has one of its variable and threads below a place of another list, that place is no less than the list's length.
module _ (xs ys : List Try) (once : AllPairs (λ (t u : Try). t.between ≢ u.between) xs) (bound : ℕ)
    (found : (i : ℕ) → i < length xs → (k : ℕ) × (k < bound) × ((d : Try) → (get_or ys k d).between ≡ (get_or xs i d).between)) where
  place : (i : ℕ) → (k : ℕ) × (i < length xs → (k < bound) × ((d : Try) → (get_or ys k d).between ≡ (get_or xs i d).between))
  place i = elim (cases_lt i (length xs)) [
    | inl lt ↦ let f = found i lt in (f.0, λ _. (f.1, f.2))
    | inr le ↦ (0, λ lt. absurd (omega (arith, le, lt)))
  ]

  one_place : (i j : ℕ) → i < length xs → j < length xs → (place i).0 ≡ (place j).0 → i ≡ j
  one_place i j lt lt' same =
      let one = ((place i).1 lt).1 no_try in
      let other = ((place j).1 lt').1 no_try in
      let here : (get_or xs i no_try).between ≡ (get_or xs j no_try).between =
      sym one ∙ ap (λ (k : ℕ). (get_or ys k no_try).between) same ∙ other
      in
      elim (cases_order i j) [
        | inl is ↦ is
        | inr (inl less) ↦ absurd (once i j no_try less lt' here)
        | inr (inr more) ↦ absurd (once j i no_try more lt (sym here))
      ]

  pigeons : length xs ≤ bound
  pigeons = pigeonhole (length xs) bound (λ i. (place i).0) (λ i lt. ((place i).1 lt).0) one_place

-- A full list of tries that stand no later than p was taken in: as many stand no later than p.
module _ (most : ℕ) (part new : List Try) (part_are : AreTries most part) (are : AreTries most new)
    (taken : (i : ℕ) (d : Try) → i < length part → HoldsTry most (get_or part i d).between (get_or part i d).pair new)
    (full : length part ≡ most) (p : ℕ × ℕ) (all : All (λ (t : Try). IsUpTo t.pair p) part) where
  module _ (bound : ℕ)
      (never : (i : ℕ) → i < length part → (length new ≡ most) × All (λ (t : Try). IsUpTo t.pair (get_or part i no_try).pair) new → ⊥)
      (low : (k : ℕ) → k < length new → IsUpTo (get_or new k no_try).pair p → k < bound) where
    found_at : (i : ℕ) → i < length part → (k : ℕ) × (k < bound) × ((d : Try) → (get_or new k d).between ≡ (get_or part i d).between)
    found_at i lt = elim (taken i no_try lt) [
      | inl any ↦
          let k : ℕ = any.0 in
          let t : Try = any.1 in
          let is : (d : Try) → get_or new k d ≡ t = λ d. get_or_default new k d t any.2 ∙ any.3 in
          let up : IsUpTo t.pair p = IsUpTo-trans t.pair (get_or part i no_try).pair p any.4.1 (all i no_try lt) in (
            k,
            low k any.2 (subst (λ (u : Try). IsUpTo u.pair p) (sym (is no_try)) up),
            λ d. ap (λ (u : Try). u.between) (is d) ∙ any.4.0 ∙ ap (λ (u : Try). u.between) (get_or_default part i no_try d lt),
          )
      | inr every ↦ absurd (never i lt every)
    ]

    bounded : most ≤ bound
    bounded = let few = pigeons part new part_are.once bound found_at in omega (arith, few, full)

  all_up : All (λ (t : Try). IsUpTo t.pair p) new
  all_up j d lt = elim (up_or_not (get_or new j d).pair p) [
    | inl up ↦ up
    | inr apart ↦
        let few = are.few in
        let same : get_or new j no_try ≡ get_or new j d = get_or_default new j no_try d lt in
        let not_up : IsUpTo (get_or new j no_try).pair p → ⊥ = λ up. apart (subst (λ (u : Try). IsUpTo u.pair p) same up) in
        let le : most ≤ j =
        bounded j
        (λ i lt' every. apart (IsUpTo-trans (get_or new j d).pair (get_or part i no_try).pair p (every.1 j d lt) (all i no_try lt')))
        (λ k within up. elim (cases_lt k j) [
          | inl below ↦ below
          | inr above ↦ elim (cases_eq k j) [
            | inl is ↦ absurd (not_up (subst (λ (n : ℕ). IsUpTo (get_or new n no_try).pair p) is up))
            | inr ne ↦
                absurd (not_up (IsUpTo-trans (get_or new j no_try).pair (get_or new k no_try).pair p (are.rising j k no_try (omega (arith, above, ne)) within) up))
          ]
        ])
        in
        absurd (omega (arith, le, lt, few))
  ]

  all_full : length new ≡ most
  all_full =
      let few = are.few in
      elim (cases_lt (length new) most) [
        | inl lt ↦
            let le : most ≤ length new = bounded (length new) (λ i lt' every. let is = every.0 in omega (arith, is, lt)) (λ k within up. within) in
            absurd (omega (arith, le, lt))
        | inr le ↦ omega (arith, le, few)
      ]

-- The first n tries of a part were taken in.
pub record AreTaken (most : ℕ) (part old new : List Try) (n : ℕ) : Type 0 where
  pub tries : AreTries most new
  pub each : All (λ (t : Try). Contains part t ⊎ Contains old t) new
  pub more : (of : Between) (p : ℕ × ℕ) → HoldsTry most of p old → HoldsTry most of p new
  pub taken : (i : ℕ) (d : Try) → i < n → HoldsTry most (get_or part i d).between (get_or part i d).pair new

pub AreTaken-none : (most : ℕ) (part old : List Try) → AreTries most old → AreTaken most part old old 0
AreTaken-none most part old are = record {
  tries = are;
  each = All-weaker (Contains old) (λ (t : Try). Contains part t ⊎ Contains old t) (λ t there. inr there) old (All-contains_itself old);
  more = λ of p held. held;
  taken = λ i d lt. absurd (omega (arith, lt));
}

pub AreTaken-more : (most : ℕ) (part old mid new : List Try) (n : ℕ) (e : Try) → n < length part → AreTaken most part old mid n
    → IsTryNoted most (get_or part n e) mid new → AreTaken most part old new (n + 1)
AreTaken-more most part old mid new n e lt is noted = record {
  tries = noted.tries;
  each =
      All-weaker (λ (t : Try). (t ≡ get_or part n e) ⊎ Contains mid t) (λ (t : Try). Contains part t ⊎ Contains old t)
      (λ t either. elim either [
        | inl same ↦ inl (subst (Contains part) (sym same) (Contains-get_or part n e lt))
        | inr there ↦ All-contains (λ (u : Try). Contains part u ⊎ Contains old u) mid t is.each there
      ]) new noted.each;
  more = λ of p held. noted.more of p (is.more of p held);
  taken = λ i d low. elim (cases_eq i n) [
    | inl same ↦
        let here : get_or part n e ≡ get_or part i d = get_or_default part n e d lt ∙ ap (λ (k : ℕ). get_or part k d) (sym same) in
        subst (λ (t : Try). HoldsTry most t.between t.pair new) here noted.held
    | inr apart ↦ noted.more (get_or part i d).between (get_or part i d).pair (is.taken i d (omega (arith, low, apart)))
  ];
}

pub AreTriesJoined-from : (most : ℕ) (part old new : List Try) (n : ℕ) → length part ≤ n → AreTries most part → AreTaken most part old new n
    → AreTriesJoined most part old new
AreTriesJoined-from most part old new n whole are is = record {
  tries = is.tries;
  each = is.each;
  more = is.more;
  other = λ of p held. elim held [
    | inl any ↦
        let k : ℕ = any.0 in
        let t : Try = any.1 in
        let there : HoldsTry most t.between t.pair new =
        subst (λ (u : Try). HoldsTry most u.between u.pair new) any.3 (is.taken k t (let low = any.2 in omega (arith, low, whole)))
        in
        HoldsTry-later most of t.pair p new any.4.1 (subst (λ (o : Between). HoldsTry most o t.pair new) any.4.0 there)
    | inr every ↦
        let taken : (i : ℕ) (d : Try) → i < length part → HoldsTry most (get_or part i d).between (get_or part i d).pair new =
        λ i d lt. is.taken i d (omega (arith, lt, whole))
        in
        inr (all_full most part new are is.tries taken every.0 p every.1, all_up most part new are is.tries taken every.0 p every.1)
  ];
}
