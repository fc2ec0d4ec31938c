-- Joins that were made stay as they are when more are made.
use Rattle.std.proofs.Common.{◌≡◌, ◌⊎◌, ℕ, zero, suc, ◌+◌, ◌<◌, ◌≤◌, List, [], ◌∷◌, ◌++◌, length, get_or, Some, refl, sym, ap, ◌∙◌, subst, arith, inl, inr}
use Rattle.std.specs.List.{slice_get}
use Rattle.std.proofs.lemmas.Bool.{cases_lt}
use Rattle.std.proofs.lemmas.List.{length_push, length-append, append-nil, get_or_append_left, get_or_push}
use Rattle.std.proofs.lemmas.Option.{same_Some}
use Rattle.rapid_text.specs.declared.event.Event.{Event}
use Rattle.event_index.specs.Events.{thread_at}
use Rattle.must_order.specs.Joins.{IsLed, IsJoin, AreJoins}
use Rattle.must_order.specs.Layout.{IsFresh, IsCounted}
use Rattle.must_order.specs.MustBefore.{EndsFirst, IsMustBefore}
use Rattle.must_order.specs.declared.joins.Join.{Join}

-- what stands in a list stands in a longer one
pub slice_get-more : {X : Type 0} (xs ys : List X) (k : ℕ) (x : X) → slice_get xs k ≡ Some x → slice_get (xs ++ ys) k ≡ Some x
slice_get-more [] ys k x at = cc
slice_get-more (y ∷ xs) ys zero x at = at
slice_get-more (y ∷ xs) ys (suc k) x at = slice_get-more xs ys k x at

-- an element of a list with one more is one of the list, or the last
pub slice_get-push : {X : Type 0} (xs : List X) (y : X) (k : ℕ) (x : X) → slice_get (xs ++ y ∷ []) k ≡ Some x
    → (slice_get xs k ≡ Some x) ⊎ ((k ≡ length xs) × (y ≡ x))
slice_get-push [] y zero x at = inr (refl, same_Some y x at)
slice_get-push [] y (suc k) x at = cc
slice_get-push (z ∷ xs) y zero x at = inl at
slice_get-push (z ∷ xs) y (suc k) x at =
    elim (slice_get-push xs y k x at) [
      | inl old ↦ inl old
      | inr last ↦ inr (ap suc last.0, last.1)
    ]

pub slice_get-last : {X : Type 0} (xs : List X) (y : X) → slice_get (xs ++ y ∷ []) (length xs) ≡ Some y
slice_get-last [] y = refl
slice_get-last (z ∷ xs) y = slice_get-last xs y

-- what led to an event still does, where there are more joins or more are looked at
pub IsLed-more : (T : List Event) (js more : List Join) (low high higher d e : ℕ) → high ≤ higher → IsLed T js low high d e → IsLed T (js ++ more) low higher d e
IsLed-more T js more low high higher d e le (inl base) = inl base
IsLed-more T js more low high higher d e le (inr (inl source)) = inr (inl source)
IsLed-more T js more low high higher d e le (inr (inr joined)) =
    inr (inr record {
      at = joined.at;
      from = joined.from;
      below = omega (arith, joined.below, le);
      join = joined.join;
      found = slice_get-more js more joined.at joined.join joined.found;
      event = joined.event;
      before = joined.before;
    })

-- at first an event is led by its base and its source alone
pub IsLed-fresh : (T : List Event) (e : ℕ) (row : ℕ → ℕ) (js : List Join) (low high a : ℕ) → IsFresh T e row → IsCounted T row a → (a ≡ e) ⊎ IsLed T js low high a e
IsLed-fresh T e row js low high a fresh counted =
    elim (fresh a counted) [
      | inl is ↦ inl is
      | inr (inl base) ↦ inr (inl base)
      | inr (inr source) ↦ inr (inr (inl source))
    ]

IsJoin-more : (T : List Event) (js more : List Join) (starts rest : List ℕ) (k : ℕ) (j : Join) → IsJoin T js starts k j → IsJoin T (js ++ more) (starts ++ rest) k j
IsJoin-more T js more starts rest k j is =
    let same_start : get_or (starts ++ rest) j.event 0 ≡ get_or starts j.event 0 = get_or_append_left starts rest 0 j.event is.event in
    record {
      event = omega (arith, is.event, length-append starts rest);
      low = omega (arith, is.low, same_start);
      ends = is.ends;
      earlier = is.earlier;
      led = subst (λ (s : ℕ). IsLed T (js ++ more) s k j.acquire j.event) (sym same_start)
          (IsLed-more T js more (get_or starts j.event 0) k k j.acquire j.event (omega arith) is.led);
    }

-- one join more
pub AreJoins-add :
    (T : List Event) (e : ℕ) (js : List Join) (starts : List ℕ) (p r : ℕ) → AreJoins T e js starts → EndsFirst T p r e → r < e
    → IsLed T js (get_or starts e 0) (length js) p e → AreJoins T e (js ++ record { event = e; acquire = p; release = r } ∷ []) starts
AreJoins-add T e js starts p r are ends early led =
    let j : Join = record { event = e; acquire = p; release = r } in
    let size = length_push js j in
    record {
      len = are.len;
      within = λ x le. omega (arith, are.within x le, size);
      rising = are.rising;
      joins = λ k i at.
          elim (slice_get-push js j k i at) [
            | inl old ↦ subst (λ (ss : List ℕ). IsJoin T (js ++ j ∷ []) ss k i) (append-nil starts) (IsJoin-more T js (j ∷ []) starts [] k i (are.joins k i old))
            | inr (last, is) ↦ subst (IsJoin T (js ++ j ∷ []) starts k) is record {
              event = omega (arith, are.len);
              low = omega (arith, last, are.within e (omega arith));
              ends = ends;
              earlier = early;
              led = IsLed-more T js (j ∷ []) (get_or starts e 0) (length js) k p e (omega (arith, last)) led;
            }
          ];
      all = λ d x lt must.
          elim (are.all d x lt must) [
            | inl is ↦ inl is
            | inr before ↦ inr (IsLed-more T js (j ∷ []) (get_or starts x 0) (get_or starts (x + 1) 0) (get_or starts (x + 1) 0) d x (omega arith) before)
          ];
    }

-- one event more
pub AreJoins-end :
    (T : List Event) (e : ℕ) (js : List Join) (starts : List ℕ) → AreJoins T e js starts
    → ((d : ℕ) → IsMustBefore T d e → (d ≡ e) ⊎ IsLed T js (get_or starts e 0) (length js) d e)
    → AreJoins T (e + 1) js (starts ++ length js ∷ [])
AreJoins-end T e js starts are led =
    let n = length js in
    let old : (x : ℕ) → x ≤ e → get_or (starts ++ n ∷ []) x 0 ≡ get_or starts x 0 =
    λ x le. get_or_append_left starts (n ∷ []) 0 x (omega (arith, are.len)) in
    let last : get_or (starts ++ n ∷ []) (e + 1) 0 ≡ n = get_or_push starts n 0 (e + 1) are.len in
    record {
      len = omega (arith, are.len, length_push starts n);
      within = λ x le.
          elim (cases_lt e x) [
            | inl past ↦ let here : x ≡ e + 1 = omega arith in omega (arith, ap (λ k. get_or (starts ++ n ∷ []) k 0) here, last)
            | inr early ↦ omega (arith, old x early, are.within x early)
          ];
      rising = λ x y xy le.
          elim (cases_lt e y) [
            | inl past ↦
                let here : y ≡ e + 1 = omega arith in
                let top : get_or (starts ++ n ∷ []) y 0 ≡ n = ap (λ k. get_or (starts ++ n ∷ []) k 0) here ∙ last in
                elim (cases_lt e x) [
                  | inl also ↦ let there : x ≡ y = omega arith in omega (arith, ap (λ k. get_or (starts ++ n ∷ []) k 0) there)
                  | inr early ↦ omega (arith, old x early, are.within x early, top)
                ]
            | inr early ↦ omega (arith, old x (omega arith), old y early, are.rising x y xy early)
          ];
      joins = λ k j at.
          subst (λ (is : List Join). IsJoin T is (starts ++ n ∷ []) k j) (append-nil js) (IsJoin-more T js [] starts (n ∷ []) k j (are.joins k j at));
      all = λ d x lt must.
          elim (cases_lt x e) [
            | inl early ↦
                subst (λ (s : ℕ). (d ≡ x) ⊎ IsLed T js s (get_or (starts ++ n ∷ []) (x + 1) 0) d x) (sym (old x (omega arith)))
                (subst (λ (s : ℕ). (d ≡ x) ⊎ IsLed T js (get_or starts x 0) s d x) (sym (old (x + 1) (omega arith))) (are.all d x early must))
            | inr late ↦
                let here : e ≡ x = omega arith in
                subst (λ (y : ℕ). (d ≡ y) ⊎ IsLed T js (get_or (starts ++ n ∷ []) y 0) (get_or (starts ++ n ∷ []) (y + 1) 0) d y) here
                (subst (λ (s : ℕ). (d ≡ e) ⊎ IsLed T js (get_or (starts ++ n ∷ []) e 0) s d e) (sym last)
                (subst (λ (s : ℕ). (d ≡ e) ⊎ IsLed T js s n d e) (sym (old e (omega arith))) (led d (subst (IsMustBefore T d) (sym here) must))))
          ];
    }

-- before the first event
pub AreJoins-none : (T : List Event) → AreJoins T 0 [] (0 ∷ [])
AreJoins-none T =
    let starts : List ℕ = 0 ∷ [] in
    let first : (x : ℕ) → x ≤ 0 → get_or starts x 0 ≡ 0 = λ x le. let here : x ≡ 0 = omega arith in ap {B = ℕ} (λ k. get_or starts k 0) here in
    record {
      len = refl;
      within = λ x le. omega (arith, first x le);
      rising = λ x y xy le. omega (arith, first x (omega arith));
      joins = λ k j at. cc;
      all = λ d x lt must. absurd (omega arith);
    }

-- each event that the row counts is e, or is led to e by the joins that were made
abbrev pub IsLedRow : List Event → List Join → ℕ → ℕ → (ℕ → ℕ) → Type 0
IsLedRow T js low e row = (a : ℕ) → IsCounted T row a → (a ≡ e) ⊎ IsLed T js low (length js) a e

-- so it stays when a release is joined, and the join is kept
pub IsLedRow-joined :
    (T : List Event) (js more : List Join) (low e p r : ℕ) (row raised : ℕ → ℕ) → low ≤ length js → IsLedRow T js low e row
    → ((a : ℕ) → IsCounted T raised a → IsCounted T row a ⊎ IsMustBefore T a r)
    → more ≡ js ++ record { event = e; acquire = p; release = r } ∷ [] → IsLedRow T more low e raised
IsLedRow-joined T js more low e p r row raised start led each grown a counted =
    let j : Join = record { event = e; acquire = p; release = r } in
    let size : length more ≡ length js + 1 = ap length grown ∙ length_push js j in
    elim (each a counted) [
      | inl old ↦ elim (led a old) [
        | inl is ↦ inl is
        | inr before ↦ inr (subst (λ (is : List Join). IsLed T is low (length more) a e) (sym grown) (IsLed-more T js (j ∷ []) low (length js) (length more) a e (omega (arith, size)) before))
      ]
      | inr new ↦
          inr (inr (inr record {
            at = length js;
            from = start;
            below = omega (arith, size);
            join = j;
            found = ap (λ (is : List Join). slice_get is (length js)) grown ∙ slice_get-last js j;
            event = refl;
            before = new;
          }))
    ]

-- the acquire of another thread is not the event itself, so it is led to it
pub EndsFirst-led :
    (T : List Event) (js : List Join) (low e p r : ℕ) (row : ℕ → ℕ) → IsLedRow T js low e row → IsCounted T row p → EndsFirst T p r e
    → IsLed T js low (length js) p e
EndsFirst-led T js low e p r row led counted ends =
    elim (led p counted) [
      | inl is ↦ absurd (ends.other (same_Some ends.owner ends.thread (sym ends.of_owner ∙ ap (thread_at T) is ∙ ends.of_thread)))
      | inr before ↦ before
    ]
