-- What becomes of the open pairs that are tried, when one pair more is taken in: an old one makes room for it, it is put where it stands, and
-- what is too much falls off the end.
use Rattle.std.proofs.Common.{◌≡◌, ◌≢◌, ◌⊎◌, ℕ, ◌+◌, ◌-◌, ◌<◌, ◌≤◌, Bool, false, true≢false, IsTrue, List, length, All, AllPairs, Any, Contains, get_or, take, insert, remove, length-take, get_or-take, le_refl, refl, sym, ap, ◌∙◌, subst, inl, inr, arith}
use Rattle.std.proofs.lemmas.Bool.{cases_eq, cases_lt}
use Rattle.std.proofs.lemmas.List.Edits.{length-insert, get_or-insert_below, get_or-insert_at, get_or-insert_above, length-remove, get_or-remove_below, get_or-remove_above}
use Rattle.std.proofs.lemmas.List.Elements.{Contains-get_or, All-contains, All-contains_itself, All-weaker, at_from_Contains, at_read}
use Rattle.std.proofs.lemmas.List.Quantifiers.{all_pairs_remove}
use Rattle.race_groups.specs.least_pairs.Taking.{AreTries, HoldsTry, IsTryNoted}
use Rattle.race_groups.specs.least_pairs.Order.{IsAhead, IsUpTo}
use Rattle.race_groups.specs.declared.least_pairs.tries.Between.{Between}
use Rattle.race_groups.specs.declared.least_pairs.tries.Try.{Try}
use Rattle.race_groups.proofs.least_pairs.OrderLemmas.{IsUpTo-trans}

-- what does not stand before a pair has it before itself, or is it
up_to_not_ahead : (p q : ℕ × ℕ) → ¬ IsAhead p q → IsUpTo q p
up_to_not_ahead p q not_ahead = elim (cases_eq q.0 p.0) [
  | inl is ↦ let none : p.1 < q.1 → ⊥ = λ lt. not_ahead (inr (sym is, lt)) in inr (is, omega arith)
  | inr ne ↦ let none : p.0 < q.0 → ⊥ = λ lt. not_ahead (inl lt) in inl (omega arith)
]

any_of : (P : Try → Type 0) (xs : List Try) (x : Try) → Contains xs x → P x → Any P xs
any_of P xs x among holds = (among.0, x, among.1, among.2, holds)

-- The list once an old try of the same variable and threads, if there is one, is out of the way of the new one.
pub record IsRoomMade (t : Try) (old new : List Try) : Type 0 where
  pub rising : AllPairs (λ (u v : Try). IsUpTo u.pair v.pair) new
  pub once : AllPairs (λ (u v : Try). u.between ≢ v.between) new
  pub apart : All (λ (u : Try). u.between ≢ t.between) new
  pub each : All (Contains old) new
  pub kept : (u : Try) → Contains old u → Contains new u ⊎ ((u.between ≡ t.between) × IsUpTo t.pair u.pair)
  pub same : (new ≡ old) ⊎ ((length new + 1 ≡ length old) × Any (λ (u : Try). IsUpTo t.pair u.pair) old)

room_kept : (most : ℕ) (t : Try) (old : List Try) → AreTries most old → All (λ (u : Try). u.between ≢ t.between) old → IsRoomMade t old old
room_kept most t old are apart = record {
  rising = are.rising;
  once = are.once;
  apart = apart;
  each = All-contains_itself old;
  kept = λ u among. inl among;
  same = inl refl;
}

-- the same from what is read of the list
pub room_read_none : (most : ℕ) (t : Try) (old seen room : List Try) → AreTries most old → seen ≡ old → All (λ (u : Try). u.between ≢ t.between) seen
    → room ≡ old → IsRoomMade t old room
room_read_none most t old seen room are same apart kept =
    subst (IsRoomMade t old) (sym kept) (room_kept most t old are (subst (All (λ (u : Try). u.between ≢ t.between)) same apart))

module _ (most at : ℕ) (t : Try) (old : List Try) (are : AreTries most old) (lt : at < length old) (of : (d : Try) → (get_or old at d).between ≡ t.between) (up : (d : Try) → IsUpTo t.pair (get_or old at d).pair) where
  removed_apart : All (λ (u : Try). u.between ≢ t.between) (remove old at)
  removed_apart k d low =
      let len = length-remove old at lt in
      elim (cases_lt k at) [
        | inl below ↦ λ is. are.once k at d below lt (ap (λ (u : Try). u.between) (sym (get_or-remove_below old at d k below lt)) ∙ is ∙ sym (of d))
        | inr above ↦ λ is.
            let between_above = ap (λ (u : Try). u.between) (get_or-remove_above old at d k above lt) in
            are.once at (k + 1) d (omega arith) (omega arith) (of d ∙ sym is ∙ between_above)
      ]

  removed_each : All (Contains old) (remove old at)
  removed_each k d low =
      let len = length-remove old at lt in
      elim (cases_lt k at) [
        | inl below ↦ subst (Contains old) (sym (get_or-remove_below old at d k below lt)) (Contains-get_or old k d (omega arith))
        | inr above ↦ subst (Contains old) (sym (get_or-remove_above old at d k above lt)) (Contains-get_or old (k + 1) d (omega arith))
      ]

  removed_kept : (u : Try) → Contains old u → Contains (remove old at) u ⊎ ((u.between ≡ t.between) × IsUpTo t.pair u.pair)
  removed_kept u among =
      let len = length-remove old at lt in
      let k = among.0 in
      let within : k < length old = among.1 in
      let is : get_or old k u ≡ u = among.2 in
      elim (cases_lt k at) [
        | inl below ↦ inl (k, omega arith, get_or-remove_below old at u k below lt ∙ is)
        | inr above ↦ elim (cases_eq k at) [
          | inl here ↦
              let found : get_or old at u ≡ u = ap (λ m. get_or old m u) (sym here) ∙ is in
              inr (ap (λ (v : Try). v.between) (sym found) ∙ of u, subst (λ (v : Try). IsUpTo t.pair v.pair) found (up u))
          | inr ne ↦
              let next : k - 1 + 1 ≡ k = omega arith in
              inl (k - 1, omega arith, get_or-remove_above old at u (k - 1) (omega arith) lt ∙ ap (λ m. get_or old m u) next ∙ is)
        ]
      ]

  room_removed : IsRoomMade t old (remove old at)
  room_removed = record {
    rising = all_pairs_remove (λ (u v : Try). IsUpTo u.pair v.pair) old at lt are.rising;
    once = all_pairs_remove (λ (u v : Try). u.between ≢ v.between) old at lt are.once;
    apart = removed_apart;
    each = removed_each;
    kept = removed_kept;
    same = inr (length-remove old at lt, any_of (λ (u : Try). IsUpTo t.pair u.pair) old (get_or old at t) (Contains-get_or old at t lt) (up t));
  }

-- the same from what is read of the list: `found` stands at the place, and not before the new one
pub room_read : (most at : ℕ) (t found : Try) (old seen room : List Try) (is_less : Bool) → AreTries most old → seen ≡ old → at < length seen
    → ((d : Try) → (get_or seen at d).between ≡ t.between) → found ≡ get_or old at found
    → (IsAhead found.pair t.pair → IsTrue is_less) → is_less ≡ false → room ≡ remove old at → IsRoomMade t old room
room_read most at t found old seen room is_less are same within of is less false_is gone =
    let lt : at < length old = omega (arith, ap length same) in
    let not_ahead : ¬ IsAhead found.pair t.pair = λ ahead. true≢false (sym (less ahead) ∙ false_is) in
    subst (IsRoomMade t old) (sym gone)
    (room_removed most at t old are lt
    (λ d. ap (λ xs. (get_or xs at d).between) (sym same) ∙ of d)
    (at_read old (λ (u : Try). IsUpTo t.pair u.pair) at found lt is (up_to_not_ahead found.pair t.pair not_ahead)))

-- One element was put in at a place, and what is beyond `most` fell off.
record IsPutIn (most at : ℕ) (t : Try) (old new : List Try) : Type 0 where
  pub within : at ≤ length old
  pub there : at < length new
  pub few : length new ≤ most
  pub long : length new ≤ length old + 1
  pub len : (length new ≡ length old + 1) ⊎ ((length new ≡ most) × (most ≤ length old))
  pub low : (k : ℕ) (d : Try) → k < at → get_or new k d ≡ get_or old k d
  pub here : (d : Try) → get_or new at d ≡ t
  pub high : (k : ℕ) (d : Try) → at ≤ k → k + 1 < length new → get_or new (k + 1) d ≡ get_or old k d

put_in : (most at : ℕ) (t : Try) (old : List Try) → at ≤ length old → at < most → IsPutIn most at t old (take most (insert old at t))
put_in most at t old within lt =
    let len = length-take most (insert old at t) in
    let more = length-insert old at t within in
    record {
      within = within;
      there = omega arith;
      few = omega arith;
      long = omega arith;
      len = elim (cases_lt (length old) most) [ inl low ↦ inl (omega arith) | inr high ↦ inr (omega arith, high) ];
      low = λ k d below. get_or-take most (insert old at t) k d (omega arith) ∙ get_or-insert_below old at t d k below within;
      here = λ d. get_or-take most (insert old at t) at d lt ∙ get_or-insert_at old at t d within;
      high = λ k d above low. get_or-take most (insert old at t) (k + 1) d (omega arith) ∙ get_or-insert_above old at t d k above within;
    }

-- what stands at place k of the new list
data Source (at : ℕ) (t : Try) (old new : List Try) (k : ℕ) : Type 0 where
  front : k < at → k < length old → ((d : Try) → get_or new k d ≡ get_or old k d) → Source at t old new k
  itself : k ≡ at → ((d : Try) → get_or new k d ≡ t) → Source at t old new k
  behind : (m : ℕ) → at ≤ m → m < length old → m + 1 ≡ k → ((d : Try) → get_or new k d ≡ get_or old m d) → Source at t old new k

source : (most at : ℕ) (t : Try) (old new : List Try) → IsPutIn most at t old new → (k : ℕ) → k < length new → Source at t old new k
source most at t old new put k low =
    let within = put.within in
    let long = put.long in
    elim (cases_lt k at) [
      | inl below ↦ front below (omega arith) (λ d. put.low k d below)
      | inr above ↦ elim (cases_eq k at) [
        | inl is ↦ itself is (λ d. ap (λ m. get_or new m d) is ∙ put.here d)
        | inr ne ↦
            let next : k - 1 + 1 ≡ k = omega arith in
            behind (k - 1) (omega arith) (omega arith) next (λ d. ap (λ m. get_or new m d) (sym next) ∙ put.high (k - 1) d (omega arith) (omega arith))
      ]
    ]

-- what holds of the new one and of the old ones
put_all : (P : Try → Type 0) (most at : ℕ) (t : Try) (old new : List Try) → IsPutIn most at t old new → P t → All P old → All P new
put_all P most at t old new put mine others k d low = elim (source most at t old new put k low) [
  | front below within is ↦ subst P (sym (is d)) (others k d within)
  | itself here is ↦ subst P (sym (is d)) mine
  | behind m above within next is ↦ subst P (sym (is d)) (others m d within)
]

module _ (R : Try → Try → Type 0) (most at : ℕ) (t : Try) (old new : List Try) (put : IsPutIn most at t old new) (pairs : AllPairs R old) (first : (k : ℕ) (d : Try) → k < at → k < length old → R (get_or old k d) t) (last : (k : ℕ) (d : Try) → at ≤ k → k < length old → R t (get_or old k d)) where
  two : (i j : ℕ) (d : Try) → i < j → Source at t old new i → Source at t old new j → R (get_or new i d) (get_or new j d)
  two i j d lt (front a b is) (front e f also) = subst (λ x. R x (get_or new j d)) (sym (is d)) (subst (R (get_or old i d)) (sym (also d)) (pairs i j d lt f))
  two i j d lt (front a b is) (itself e also) = subst (λ x. R x (get_or new j d)) (sym (is d)) (subst (R (get_or old i d)) (sym (also d)) (first i d a b))
  two i j d lt (front a b is) (behind m e f g also) =
      subst (λ x. R x (get_or new j d)) (sym (is d)) (subst (R (get_or old i d)) (sym (also d)) (pairs i m d (omega arith) f))
  two i j d lt (itself a is) (front e f also) = absurd (omega arith)
  two i j d lt (itself a is) (itself e also) = absurd (omega arith)
  two i j d lt (itself a is) (behind m e f g also) = subst (λ x. R x (get_or new j d)) (sym (is d)) (subst (R t) (sym (also d)) (last m d e f))
  two i j d lt (behind n a b c is) (front e f also) = absurd (omega arith)
  two i j d lt (behind n a b c is) (itself e also) = absurd (omega arith)
  two i j d lt (behind n a b c is) (behind m e f g also) =
      subst (λ x. R x (get_or new j d)) (sym (is d)) (subst (R (get_or old n d)) (sym (also d)) (pairs n m d (omega arith) f))

  put_pairs : AllPairs R new
  put_pairs i j d lt within = two i j d lt (source most at t old new put i (omega arith)) (source most at t old new put j within)

-- The new one is taken into a list with room, at a place where those in front stand no later, and the one behind no earlier.
module _ (most at : ℕ) (t : Try) (old room new : List Try) (are : AreTries most old) (made : IsRoomMade t old room) (put : IsPutIn most at t room new) (low : (k : ℕ) (d : Try) → k < at → IsUpTo (get_or room k d).pair t.pair) (high : at < length room → (d : Try) → IsUpTo t.pair (get_or room at d).pair) where
  up_to_later : (k : ℕ) (d : Try) → at ≤ k → k < length room → IsUpTo t.pair (get_or room k d).pair
  up_to_later k d above within = elim (cases_eq k at) [
    | inl is ↦ subst (λ m. IsUpTo t.pair (get_or room m d).pair) (sym is) (high (omega arith) d)
    | inr ne ↦
        IsUpTo-trans t.pair (get_or room at d).pair (get_or room k d).pair (high (omega arith) d)
        (made.rising at k d (omega arith) within)
  ]

  put_tries : AreTries most new
  put_tries = record {
    rising =
        put_pairs (λ (u v : Try). IsUpTo u.pair v.pair) most at t room new put made.rising (λ k d below within. low k d below) up_to_later;
    once =
        put_pairs (λ (u v : Try). u.between ≢ v.between) most at t room new put made.once
        (λ k d below within. made.apart k d within)
        (λ k d above within is. made.apart k d within (sym is));
    few = put.few;
  }

  held_itself : (p : ℕ × ℕ) → IsUpTo t.pair p → HoldsTry most t.between p new
  held_itself p up =
      let is = put.here t in
      inl (at, t, put.there, is, (refl, up))

  up_to_left : (k j : ℕ) (d : Try) → at ≤ k → k < length room → j ≤ k → Source at t room new j → IsUpTo (get_or new j d).pair (get_or room k d).pair
  up_to_left k j d above within le (front below low_j is) =
      subst (λ (u : Try). IsUpTo u.pair (get_or room k d).pair) (sym (is d)) (made.rising j k d (omega arith) within)
  up_to_left k j d above within le (itself here is) = subst (λ (u : Try). IsUpTo u.pair (get_or room k d).pair) (sym (is d)) (up_to_later k d above within)
  up_to_left k j d above within le (behind m above_m low_m next is) =
      subst (λ (u : Try). IsUpTo u.pair (get_or room k d).pair) (sym (is d)) (made.rising m k d (omega arith) within)

  -- an old one stays, or there are as many as may be and it is behind them all
  still : (u : Try) → Contains room u → Contains new u ⊎ ((length new ≡ most) × All (λ (v : Try). IsUpTo v.pair u.pair) new)
  still u among =
      let found = at_from_Contains room u among in
      let k = found.0 in
      let within : k < length room = found.1 in
      let is : (d : Try) → get_or room k d ≡ u = found.2 in
      let there = put.there in
      elim (cases_lt k at) [
        | inl below ↦ inl (k, omega arith, put.low k u below ∙ is u)
        | inr above ↦ elim (cases_lt (k + 1) (length new)) [
          | inl inside ↦ inl (k + 1, inside, put.high k u above inside ∙ is u)
          | inr outside ↦ elim put.len [
            | inl long ↦ absurd (omega arith)
            | inr full ↦
                let up : (j : ℕ) (d : Try) → j < length new → IsUpTo (get_or new j d).pair (get_or room k d).pair =
                λ j d lt. up_to_left k j d above within (omega arith) (source most at t room new put j lt) in
                inr (full.0, λ j d lt. subst (λ (v : Try). IsUpTo (get_or new j d).pair v.pair) (is d) (up j d lt))
          ]
        ]
      ]

  all_in_room : (P : Try → Type 0) → All P old → All P room
  all_in_room P all k d lt = All-contains P old (get_or room k d) all (made.each k d lt)

  still_full : (p : ℕ × ℕ) → length old ≡ most → All (λ (u : Try). IsUpTo u.pair p) old → (length new ≡ most) × All (λ (u : Try). IsUpTo u.pair p) new
  still_full p full all =
      let P : Try → Type 0 = λ u. IsUpTo u.pair p in
      let there = put.there in
      let few = put.few in
      elim made.same [
        | inl is ↦
            let len : length room ≡ most = ap length is ∙ full in
            let low_at : at < length room = omega arith in (
              elim put.len [ inl long ↦ absurd (omega arith) | inr x ↦ x.0 ],
              put_all P most at t room new put
                  (IsUpTo-trans t.pair (get_or room at t).pair p (high low_at t) (all_in_room P all at t low_at))
                  (all_in_room P all),
            )
        | inr less ↦
            let len : length room + 1 ≡ length old = less.0 in
            let gone = less.1 in
            let u = gone.1 in (
              elim put.len [ inl long ↦ long ∙ len ∙ full | inr x ↦ x.0 ],
              put_all P most at t room new put
                  (IsUpTo-trans t.pair u.pair p gone.4 (All-contains P old u all (gone.0, gone.2, gone.3)))
                  (all_in_room P all),
            )
      ]

  still_held : (of : Between) (p : ℕ × ℕ) → HoldsTry most of p old → HoldsTry most of p new
  still_held of p (inl any) =
      let u = any.1 in
      let among : Contains old u = (any.0, any.2, any.3) in
      let is : u.between ≡ of = any.4.0 in
      let up : IsUpTo u.pair p = any.4.1 in
      elim (made.kept u among) [
        | inl in_room ↦ elim (still u in_room) [
          | inl there ↦ inl (any_of (λ (v : Try). (v.between ≡ of) × IsUpTo v.pair p) new u there (is, up))
          | inr full ↦
              let further : (v : Try) → IsUpTo v.pair u.pair → IsUpTo v.pair p = λ v below. IsUpTo-trans v.pair u.pair p below up in
              inr (full.0, All-weaker (λ (v : Try). IsUpTo v.pair u.pair) (λ (v : Try). IsUpTo v.pair p) further new full.1)
        ]
        | inr gone ↦ inl (at, t, put.there, put.here t, (sym gone.0 ∙ is, IsUpTo-trans t.pair u.pair p gone.1 up))
      ]
  still_held of p (inr full) = inr (still_full p full.0 full.1)

  try_noted : IsTryNoted most t old new
  try_noted = record {
    tries = put_tries;
    each =
        put_all (λ (u : Try). (u ≡ t) ⊎ Contains old u) most at t room new put (inl refl)
        (λ k d lt. inr (made.each k d lt));
    held = held_itself t.pair (inr (refl, le_refl t.pair.1));
    more = still_held;
  }

-- the same from what the list is made of; `seen` is the list with room as it was looked through
pub try_put : (most at : ℕ) (t : Try) (old room seen longer new : List Try) → AreTries most old → IsRoomMade t old room → seen ≡ room
    → at ≤ length seen → ((k : ℕ) (d : Try) → k < at → IsUpTo (get_or seen k d).pair t.pair)
    → (at < length seen → (d : Try) → IsUpTo t.pair (get_or seen at d).pair)
    → at < most → longer ≡ insert room at t → new ≡ take most longer → IsTryNoted most t old new
try_put most at t old room seen longer new are made same within low high lt is cut =
    let len = ap length same in
    let new_is : new ≡ take most (insert room at t) = cut ∙ ap (take most) is in
    subst (IsTryNoted most t old) (sym new_is)
    (try_noted most at t old room (take most (insert room at t)) are made (put_in most at t room (omega arith) lt)
    (λ k d below. subst (λ xs. IsUpTo (get_or xs k d).pair t.pair) same (low k d below))
    (λ inside d. subst (λ xs. IsUpTo t.pair (get_or xs at d).pair) same (high (omega arith) d)))

-- There are as many as may be, and the new one stands behind them all.
pub try_passed : (most at : ℕ) (t : Try) (old room seen : List Try) → AreTries most old → IsRoomMade t old room → seen ≡ room
    → at ≤ length seen → ((k : ℕ) (d : Try) → k < at → IsUpTo (get_or seen k d).pair t.pair) → most ≤ at → IsTryNoted most t old room
try_passed most at t old room seen are made same within low full =
    let few = are.few in
    let seen_len = ap length same in
    elim made.same [
      | inl is ↦
          let len : length room ≡ length old = ap length is in
          record {
            tries = subst (AreTries most) (sym is) are;
            each = λ k d lt. inr (made.each k d lt);
            held = inr (omega arith, λ k d lt. subst (λ xs. IsUpTo (get_or xs k d).pair t.pair) same (low k d (omega arith)));
            more = λ of p holds. subst (HoldsTry most of p) (sym is) holds;
          }
      | inr less ↦ let len = less.0 in absurd (omega arith)
    ]
