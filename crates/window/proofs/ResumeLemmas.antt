-- The list of the window without the prologue, behind the events before k: one event further, its members, its
-- counts and its last writes.
use Rattle.std.proofs.Common.{◌≡◌, ◌≢◌, ℕ, ◌+◌, ◌<◌, ◌≤◌, ◌⊎◌, ◌&&◌, Bool, true, false, not, cond, nat_lt, List, [], ◌∷◌, ◌++◌, length, map, filter, count_by, Contains, Option, Some, sym, ap, ◌∙◌, subst, arith, append-nil, inl, inr}
use Rattle.std.specs.Option.{option_or, option_map}
use Rattle.std.proofs.lemmas.Bool.{cases_Bool, cases_lt, lt-ltb, le-ltb}
use Rattle.std.proofs.lemmas.List.{map_push, append_assoc}
use Rattle.std.proofs.lemmas.List.Elements.{Contains-push, Contains-push_cases, Contains-append_left}
use Rattle.std.proofs.lemmas.List.Sums.{sum_by_push}
use Rattle.std.proofs.lemmas.List.FromFn.{length-range_with_len, get_or-range_with_len}
use Rattle.rapid_text.specs.Operations.{is_write}
use Rattle.rapid_text.specs.declared.event.Event.{Event}
use Rattle.event_index.specs.Events.{passes_at, passes_by, is_write_at}
use Rattle.event_index.specs.Lookups.{before, last_write}
use Rattle.event_index.proofs.CallerLemmas.{passes_here}
use Rattle.schedule.specs.Reordering.{AtEach}
use Rattle.schedule.proofs.ListLemmas.{filter_push_yes, filter_push_no}
use Rattle.schedule.proofs.LockLemmas.{AtEach-grows}
use Rattle.schedule.proofs.CallerLemmas.{find-reverse_push}
use Rattle.witness_search.proofs.KeptLemmas.{event_there}
use Rattle.window.specs.Window.{IsWindow, back, stripped, resumed}
use Rattle.window.proofs.WindowLemmas.{there, writes_x}

module _ (n k : ℕ) where
  pub resumed-nil : resumed n k [] ≡ before k
  resumed-nil = append-nil (before k)

  pub resumed_yes : (P : List ℕ) (e : ℕ) → n ≤ e → resumed n k (P ++ e ∷ []) ≡ resumed n k P ++ back n k e ∷ []
  resumed_yes P e high =
      let passes : not (nat_lt e n) ≡ true = ap not (le-ltb e n high) in
      ap (λ l. before k ++ map (back n k) l) (filter_push_yes (λ d. not (nat_lt d n)) P e passes)
      ∙ ap (λ l. before k ++ l) (map_push (back n k) (filter (λ d. not (nat_lt d n)) P) e)
      ∙ sym (append_assoc (before k) (stripped n k P) (back n k e ∷ []))

  pub resumed_no : (P : List ℕ) (e : ℕ) → e < n → resumed n k (P ++ e ∷ []) ≡ resumed n k P
  resumed_no P e low =
      let fails : not (nat_lt e n) ≡ false = ap not (lt-ltb e n low) in
      ap (λ l. before k ++ map (back n k) l) (filter_push_no (λ d. not (nat_lt d n)) P e fails)

  any : (P : List ℕ) → AtEach P (λ xs e. ℕ)
  any P i lt = 0

  -- the events before k are members
  pub has_early : (P : List ℕ) (d : ℕ) → d < k → Contains (resumed n k P) d
  has_early P d lt =
      Contains-append_left (before k) (stripped n k P) d
      (d, omega (arith, length-range_with_len 0 k), get_or-range_with_len 0 k d d lt ∙ omega arith)

  -- the events of the list are members
  abbrev HasBack : List ℕ → Type 0
  HasBack P = (e : ℕ) → n ≤ e → Contains P e → Contains (resumed n k P) (back n k e)

  back_more : (P : List ℕ) (d : ℕ) → HasBack P → HasBack (P ++ d ∷ [])
  back_more P d rest e high has =
      elim (cases_lt d n) [
        | inl low ↦
            subst (λ (l : List ℕ). Contains l (back n k e)) (sym (resumed_no P d low))
            (elim (Contains-push_cases P d e has) [
              | inl within ↦ rest e high within
              | inr is ↦ absurd (omega arith)
            ])
        | inr le ↦
            subst (λ (l : List ℕ). Contains l (back n k e)) (sym (resumed_yes P d le))
            (elim (Contains-push_cases P d e has) [
              | inl within ↦ Contains-append_left (resumed n k P) (back n k d ∷ []) (back n k e) (rest e high within)
              | inr is ↦ subst (λ (b : ℕ). Contains (resumed n k P ++ back n k d ∷ []) (back n k b)) is (Contains-push (resumed n k P) (back n k d))
            ])
      ]

  pub has_back : (P : List ℕ) (e : ℕ) → n ≤ e → Contains P e → Contains (resumed n k P) (back n k e)
  has_back P = AtEach-grows HasBack (λ xs e. ℕ) P (λ e high (i, lt, at). absurd (omega arith)) (λ xs e h one. back_more xs e h) (any P)

  -- and there are no others
  abbrev OnlyBack : List ℕ → Type 0
  OnlyBack P = (d : ℕ) → Contains (resumed n k P) d → (d < k) ⊎ ((e : ℕ) × (n ≤ e) × Contains P e × (back n k e ≡ d))

  only_nil : OnlyBack []
  only_nil d has =
      let (i, lt, at) = subst (λ (l : List ℕ). Contains l d) resumed-nil has in
      let low : i < k = omega (arith, lt, length-range_with_len 0 k) in
      inl (omega (arith, low, get_or-range_with_len 0 k i d low, at))

  only_longer : (P : List ℕ) (f d : ℕ) → (d < k) ⊎ ((e : ℕ) × (n ≤ e) × Contains P e × (back n k e ≡ d))
      → (d < k) ⊎ ((e : ℕ) × (n ≤ e) × Contains (P ++ f ∷ []) e × (back n k e ≡ d))
  only_longer P f d h =
      elim h [
        | inl low ↦ inl low
        | inr one ↦ inr (one.0, one.1, Contains-append_left P (f ∷ []) one.0 one.2, one.3)
      ]

  only_more : (P : List ℕ) (f : ℕ) → OnlyBack P → OnlyBack (P ++ f ∷ [])
  only_more P f rest d has =
      elim (cases_lt f n) [
        | inl low ↦ only_longer P f d (rest d (subst (λ (l : List ℕ). Contains l d) (resumed_no P f low) has))
        | inr le ↦
            elim (Contains-push_cases (resumed n k P) (back n k f) d (subst (λ (l : List ℕ). Contains l d) (resumed_yes P f le) has)) [
              | inl within ↦ only_longer P f d (rest d within)
              | inr is ↦ inr (f, le, Contains-push P f, is)
            ]
      ]

  pub only_back : (P : List ℕ) (d : ℕ) → Contains (resumed n k P) d → (d < k) ⊎ ((e : ℕ) × (n ≤ e) × Contains P e × (back n k e ≡ d))
  only_back P = AtEach-grows OnlyBack (λ xs e. ℕ) P only_nil (λ xs e h one. only_more xs e h) (any P)

-- a list of events of the window
abbrev pub AreWithin : List Event → List ℕ → Type 0
AreWithin W P = AtEach P (λ xs e. e < length W)

module _ (T W : List Event) (k m n x lock c : ℕ) (is : IsWindow T W k m n x lock c) where
  -- a test at an event behind the prologue
  passes_back : (test : Event → Bool) (e : ℕ) → n ≤ e → e < length W → passes_at test W e ≡ passes_at test T (back n k e)
  passes_back test e low high = ap (passes_by test) (there T W k m n x lock c is e low high)

  -- what passes among the resumed passes before k, or behind the prologue
  module _ (test : Event → Bool) where
    abbrev Counts : List ℕ → Type 0
    Counts P = count_by (passes_at test T) (resumed n k P) ≡ count_by (passes_at test T) (before k) + count_by (λ e. not (nat_lt e n) && passes_at test W e) P

    counts_nil : Counts []
    counts_nil =
        let same : count_by (passes_at test T) (resumed n k []) ≡ count_by (passes_at test T) (before k) = ap (count_by (passes_at test T)) (resumed-nil n k) in
        omega (arith, same)

    counts_more : (P : List ℕ) (e : ℕ) → Counts P → e < length W → Counts (P ++ e ∷ [])
    counts_more P e rest within =
        let q : ℕ → Bool = λ d. not (nat_lt d n) && passes_at test W d in
        let one : count_by q (P ++ e ∷ []) ≡ count_by q P + cond (q e) 1 0 = sum_by_push (λ d. cond (q d) 1 0) P e in
        elim (cases_lt e n) [
          | inl low ↦
              let none : cond {A = ℕ} (q e) 1 0 ≡ 0 = ap (λ b. cond {A = ℕ} (not b && passes_at test W e) 1 0) (lt-ltb e n low) in
              let same : count_by (passes_at test T) (resumed n k (P ++ e ∷ [])) ≡ count_by (passes_at test T) (resumed n k P) = ap (count_by (passes_at test T)) (resumed_no n k P e low) in
              omega (arith, rest, one, none, same)
          | inr le ↦
              let here : cond {A = ℕ} (q e) 1 0 ≡ cond (passes_at test T (back n k e)) 1 0 =
              ap (λ b. cond {A = ℕ} (not b && passes_at test W e) 1 0) (le-ltb e n le) ∙ ap (λ b. cond {A = ℕ} b 1 0) (passes_back test e le within) in
              let same : count_by (passes_at test T) (resumed n k (P ++ e ∷ [])) ≡ count_by (passes_at test T) (resumed n k P) + cond (passes_at test T (back n k e)) 1 0 =
              ap (count_by (passes_at test T)) (resumed_yes n k P e le) ∙ sum_by_push (λ d. cond (passes_at test T d) 1 0) (resumed n k P) (back n k e) in
              omega (arith, rest, one, here, same)
        ]

    pub resumed-counts : (P : List ℕ) → AreWithin W P
        → count_by (passes_at test T) (resumed n k P) ≡ count_by (passes_at test T) (before k) + count_by (λ e. not (nat_lt e n) && passes_at test W e) P
    resumed-counts P within = AtEach-grows Counts (λ xs e. e < length W) P counts_nil (λ xs e h one. counts_more xs e h one) within

  -- the last write: that of the window, or the last before k
  module _ (y : ℕ) (other : y ≢ x) where
    abbrev pub known : Option ℕ → Option ℕ
    known o = option_or (option_map (back n k) o) (last_write T y (before k))

    abbrev Writes : List ℕ → Type 0
    Writes P = last_write T y (resumed n k P) ≡ known (last_write W y P)

    writes_more : (P : List ℕ) (e : ℕ) → Writes P → e < length W → Writes (P ++ e ∷ [])
    writes_more P e rest within =
        let pushed : last_write W y (P ++ e ∷ []) ≡ cond (is_write_at W y e) (Some e) (last_write W y P) = find-reverse_push (is_write_at W y) P e in
        elim (cases_lt e n) [
          | inl low ↦
              let (v, at) = event_there W e within in
              let fails : is_write_at W y e ≡ false = passes_here (λ w. is_write y w.op) W e v at ∙ writes_x x lock y v.op other (is.ops e v low at) in
              ap (last_write T y) (resumed_no n k P e low) ∙ rest ∙ ap known (sym (pushed ∙ ap (λ b. cond b (Some e) (last_write W y P)) fails))
          | inr le ↦
              let same : is_write_at W y e ≡ is_write_at T y (back n k e) = passes_back (λ w. is_write y w.op) e le within in
              let here : last_write T y (resumed n k (P ++ e ∷ [])) ≡ cond (is_write_at T y (back n k e)) (Some (back n k e)) (last_write T y (resumed n k P)) =
              ap (last_write T y) (resumed_yes n k P e le) ∙ find-reverse_push (is_write_at T y) (resumed n k P) (back n k e) in
              elim (cases_Bool (is_write_at T y (back n k e))) [
                | inl passes ↦
                    here ∙ ap (λ b. cond b (Some (back n k e)) (last_write T y (resumed n k P))) passes
                    ∙ ap known (sym (pushed ∙ ap (λ b. cond b (Some e) (last_write W y P)) (same ∙ passes)))
                | inr fails ↦
                    here ∙ ap (λ b. cond b (Some (back n k e)) (last_write T y (resumed n k P))) fails ∙ rest
                    ∙ ap known (sym (pushed ∙ ap (λ b. cond b (Some e) (last_write W y P)) (same ∙ fails)))
              ]
        ]

    pub resumed-writes : (P : List ℕ) → AreWithin W P → last_write T y (resumed n k P) ≡ known (last_write W y P)
    resumed-writes P within =
        AtEach-grows Writes (λ xs e. e < length W) P (ap (last_write T y) (resumed-nil n k)) (λ xs e h one. writes_more xs e h one) within
