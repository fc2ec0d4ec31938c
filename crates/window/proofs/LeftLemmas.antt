-- What events leave behind is all that the rules ask of them; and it stays, whatever comes after them and whatever the numbers are.
use Rattle.std.proofs.Common.{◌≡◌, ℕ, ◌+◌, ◌-◌, ◌<◌, ◌≤◌, ◌==◌, ◌&&◌, ◌||◌, Bool, true, false, not, cond, ltb, List, [], ◌∷◌, ◌++◌, length, take, count_by, get_or, slice_get, Some, None, refl, sym, ap, ap₂, ◌∙◌, subst, arith, eqb-true, eq-eqb, ne_eqb, inl, inr}
use Rattle.std.specs.List.{list_any}
use Rattle.std.proofs.lemmas.Bool.{cases_Bool, cases_lt, cases_eq, and_parts, false≢true}
use Rattle.std.proofs.lemmas.List.{length-append, length-map, take-append-le, take-map, take_all, get_or_append_left, get_or-append-add}
use Rattle.std.proofs.Math.Seq.{take-append_seam, take-append-add}
use Rattle.std.proofs.lemmas.List.Folds.{list_any-append}
use Rattle.std.proofs.lemmas.List.Sums.{sum_by-append, sum_by-cons}
use Rattle.std.proofs.lemmas.Option.{slice_get-get_or, slice_get-map}
use Rattle.std.specs.Option.{option_map}
use Rattle.rapid_text.specs.Operations.{is_acquire, is_release, is_fork, is_join}
use Rattle.rapid_text.specs.declared.event.Event.{Event}
use Rattle.rapid_text.specs.declared.event.Op.{Op}
use Rattle.rapid_text.specs.declared.event.Op.TheVariants.{Read, Write, Acquire, Release, Fork, Join}
use Rattle.trace_rules.specs.Rules.{IsDisciplined, acquire_count, release_count, hold_count, breach_of, breach_of_op, breach_at}
use Rattle.trace_rules.specs.declared.refusal.RuleCause.TheVariants.{ReleaseNotHeld, AcquireHeld, ForkTwice, ForkLate, OwnThread, AfterJoin}
use Rattle.trace_rules.proofs.CallerLemmas.{IsDisciplined-from_none, none-from_IsDisciplined, release_count-le, acquire-from_test}
use Rattle.trace_rules.proofs.Counts.{list_any-from_count, list_any-or, is_held_by_another, is_held_by_another-false, hold_count-other}
use Rattle.trace_rules.proofs.TableLemmas.{breach_at-event}
use Rattle.window.proofs.WindowLemmas.{tag, arg}
use Rattle.window.specs.Renamed.{Names, renamed, renamed_op, renamed_event}
use Rattle.window.specs.Streams.{IsLeft}

count_append : (p : Event → Bool) (A Q : List Event) → count_by p (A ++ Q) ≡ count_by p A + count_by p Q
count_append p A Q = sum_by-append (λ v. cond (p v) 1 0) A Q

-- no lock is let go more often than it was taken
abbrev pub IsEven : List Event → Type 0
IsEven A = (t l : ℕ) → release_count A t l ≤ acquire_count A t l

pub even-from_rules : (A Q : List Event) → IsDisciplined (A ++ Q) → IsEven A
even-from_rules A Q rules t l =
    subst (λ (es : List Event). release_count es t l ≤ acquire_count es t l) (take-append_seam A Q) (release_count-le (A ++ Q) rules (length A) t l)

pub even-of_rules : (A : List Event) → IsDisciplined A → IsEven A
even-of_rules A rules t l =
    subst (λ (es : List Event). release_count es t l ≤ acquire_count es t l) (take_all (length A) A (omega arith)) (release_count-le A rules (length A) t l)

-- the events are of these threads, and fork these alone
abbrev pub IsOfThreads : (ℕ → Type 0) → Event → Type 0
IsOfThreads P e = P e.thread × ((u : ℕ) → e.op ≡ Fork u → P u)

abbrev pub AreOfThreads : (ℕ → Type 0) → List Event → Type 0
AreOfThreads P Q = (i : ℕ) (e : Event) → slice_get Q i ≡ Some e → IsOfThreads P e

-- the same holds after both
pub holds-append : (A B Q : List Event) → ((t l : ℕ) → hold_count A t l ≡ hold_count B t l) → IsEven A → IsEven B → (t l : ℕ) → hold_count (A ++ Q) t l ≡ hold_count (B ++ Q) t l
holds-append A B Q same even also t l =
    let takes : Event → Bool = λ e. e.thread == t && is_acquire l e.op in
    let frees : Event → Bool = λ e. e.thread == t && is_release l e.op in
    omega (arith, same t l, even t l, also t l, count_append takes A Q, count_append takes B Q, count_append frees A Q, count_append frees B Q)

-- the same events after both
pub left-append : (P : ℕ → Type 0) (A B Q : List Event) → IsLeft P A B → IsEven A → IsEven B → IsLeft P (A ++ Q) (B ++ Q)
left-append P A B Q left even also = record {
  holds = λ t l. holds-append A B Q left.holds even also t l;
  forked = λ u of. any (λ e. is_fork u e.op) (left.forked u of);
  joined = λ u of. any (λ e. is_join u e.op) (left.joined u of);
  seen = λ u of. any (λ e. e.thread == u) (left.seen u of);
}
  where
    any : (p : Event → Bool) → list_any p A ≡ list_any p B → list_any p (A ++ Q) ≡ list_any p (B ++ Q)
    any p same = list_any-append p A Q ∙ ap (λ b. b || list_any p Q) same ∙ sym (list_any-append p B Q)

pub left-sym : (P : ℕ → Type 0) (A B : List Event) → IsLeft P A B → IsLeft P B A
left-sym P A B left = record {
  holds = λ t l. sym (left.holds t l);
  forked = λ u of. sym (left.forked u of);
  joined = λ u of. sym (left.joined u of);
  seen = λ u of. sym (left.seen u of);
}

both_ways : (a b : Bool) → (b ≡ false → a ≡ false) → (a ≡ false → b ≡ false) → a ≡ b
both_ways a b back forth =
    elim (cases_Bool a) [
      | inl found ↦ elim (cases_Bool b) [
        | inl also ↦ found ∙ sym also
        | inr none ↦ back none ∙ sym none
      ]
      | inr none ↦ none ∙ sym (forth none)
    ]

free_left : (P : ℕ → Type 0) (A B : List Event) → IsLeft P A B → (t l : ℕ) → is_held_by_another B t l ≡ false → is_held_by_another A t l ≡ false
free_left P A B left t l free = is_held_by_another-false A t l (λ u other. left.holds u l ∙ hold_count-other B t l u free other)

-- an event breaks the same rule after the one as after the other
module _ (P : ℕ → Type 0) (A B : List Event) (left : IsLeft P A B) where
  late_same : (u : ℕ) → P u → list_any (λ e. e.thread == u || is_join u e.op) A ≡ list_any (λ e. e.thread == u || is_join u e.op) B
  late_same u of =
      list_any-or (λ e. e.thread == u) (λ e. is_join u e.op) A ∙ ap₂ (λ a b. a || b) (left.seen u of) (left.joined u of)
      ∙ sym (list_any-or (λ e. e.thread == u) (λ e. is_join u e.op) B)

  op_same : (t : ℕ) (op : Op) → ((u : ℕ) → op ≡ Fork u → P u) → breach_of_op A t op ≡ breach_of_op B t op
  op_same t (Read x) of = refl
  op_same t (Write x) of = refl
  op_same t (Acquire l) of =
      ap (λ b. cond b (Some AcquireHeld) None)
      (both_ways (is_held_by_another A t l) (is_held_by_another B t l) (free_left P A B left t l) (free_left P B A (left-sym P A B left) t l))
  op_same t (Release l) of = ap (λ n. cond (n == 0) (Some ReleaseNotHeld) None) (left.holds t l)
  op_same t (Fork u) of =
      ap₂ (λ a b. cond (u == t) (Some OwnThread) (cond a (Some ForkTwice) (cond b (Some ForkLate) None))) (left.forked u (of u refl)) (late_same u (of u refl))
  op_same t (Join u) of = refl

  pub breach-same : (e : Event) → IsOfThreads P e → breach_of A e ≡ breach_of B e
  breach-same e of = ap₂ (λ b o. cond b (Some AfterJoin) o) (left.joined e.thread of.0) (op_same e.thread e.op of.1)

-- what an event of the first list breaks, whatever comes after it
pub breach_early : (A Q : List Event) (j : ℕ) → j < length A → breach_at (A ++ Q) j ≡ breach_at A j
breach_early A Q j low =
    let nothing : Event = record { thread = 0; op = Read 0 } in
    let e : Event = get_or A j nothing in
    let here : slice_get A j ≡ Some e = slice_get-get_or A j nothing low in
    let there : slice_get (A ++ Q) j ≡ Some e =
    slice_get-get_or (A ++ Q) j nothing (omega (arith, low, length-append A Q)) ∙ ap Some (get_or_append_left A Q nothing j low) in
    breach_at-event (A ++ Q) j e there
    ∙ ap (λ es. breach_of es e) (take-append-le j A Q (omega (arith, low)))
    ∙ sym (breach_at-event A j e here)

-- and what a later one breaks
pub breach_late : (P : ℕ → Type 0) (A B Q : List Event) → IsLeft P A B → AreOfThreads P Q → IsEven A → IsEven B → (i : ℕ) → i < length Q
    → breach_at (A ++ Q) (length A + i) ≡ breach_at (B ++ Q) (length B + i)
breach_late P A B Q left of even also i lt =
    let nothing : Event = record { thread = 0; op = Read 0 } in
    let e : Event = get_or Q i nothing in
    let here : slice_get (A ++ Q) (length A + i) ≡ Some e =
    slice_get-get_or (A ++ Q) (length A + i) nothing (omega (arith, lt, length-append A Q)) ∙ ap Some (get_or-append-add A Q i nothing) in
    let there : slice_get (B ++ Q) (length B + i) ≡ Some e =
    slice_get-get_or (B ++ Q) (length B + i) nothing (omega (arith, lt, length-append B Q)) ∙ ap Some (get_or-append-add B Q i nothing) in
    breach_at-event (A ++ Q) (length A + i) e here
    ∙ ap (λ es. breach_of es e) (take-append-add A Q i)
    ∙ breach-same P (A ++ take i Q) (B ++ take i Q) (left-append P A B (take i Q) left even also) e (of i e (slice_get-get_or Q i nothing lt))
    ∙ sym (breach_at-event (B ++ Q) (length B + i) e there ∙ ap (λ es. breach_of es e) (take-append-add B Q i))

-- what breaks no rule after the one breaks none after the other: a lock may be let go there more often than it was taken
module _ (P : ℕ → Type 0) (A B Q : List Event) (left : IsLeft P A B) (of : AreOfThreads P Q) where
  -- events that keep the rules after the one keep them after the other
  pub rules-left : IsDisciplined A → IsDisciplined (B ++ Q) → IsDisciplined (A ++ Q)
  rules-left rules also =
      IsDisciplined-from_none (A ++ Q) (λ j lt. elim (cases_lt j (length A)) [
        | inl low ↦ breach_early A Q j low ∙ none-from_IsDisciplined A rules j low
        | inr high ↦ subst (λ n. breach_at (A ++ Q) n ≡ None) (omega (arith, high)) (late (j - length A) (omega (arith, lt, high, length-append A Q)))
      ])
    where
      late : (i : ℕ) → i < length Q → breach_at (A ++ Q) (length A + i) ≡ None
      late i lt =
          breach_late P A B Q left of (even-of_rules A rules) (even-from_rules B Q also) i lt
          ∙ none-from_IsDisciplined (B ++ Q) also (length B + i) (omega (arith, lt, length-append B Q))

same_number : (f : ℕ → ℕ) → ((a b : ℕ) → f a ≡ f b → a ≡ b) → (a b : ℕ) → (f a == f b) ≡ (a == b)
same_number f apart a b =
    elim (cases_eq a b) [
      | inl same ↦ eq-eqb (f a) (f b) (ap f same) ∙ sym (eq-eqb a b same)
      | inr other ↦ ne_eqb (f a) (f b) (λ same. other (apart a b same)) ∙ sym (ne_eqb a b other)
    ]

-- Other numbers, which keep threads and locks apart.
module _ (f : Names) (threads : (a b : ℕ) → f.thread a ≡ f.thread b → a ≡ b) (locks : (a b : ℕ) → f.lock a ≡ f.lock b → a ≡ b) where
  forks : (t : ℕ) (op : Op) → is_fork (f.thread t) (renamed_op f op) ≡ is_fork t op
  forks t (Fork u) = same_number f.thread threads u t
  forks t (Read x) = refl
  forks t (Write x) = refl
  forks t (Acquire l) = refl
  forks t (Release l) = refl
  forks t (Join u) = refl

  joins : (t : ℕ) (op : Op) → is_join (f.thread t) (renamed_op f op) ≡ is_join t op
  joins t (Join u) = same_number f.thread threads u t
  joins t (Read x) = refl
  joins t (Write x) = refl
  joins t (Acquire l) = refl
  joins t (Release l) = refl
  joins t (Fork u) = refl

  takes : (l : ℕ) (op : Op) → is_acquire (f.lock l) (renamed_op f op) ≡ is_acquire l op
  takes l (Acquire k) = same_number f.lock locks k l
  takes l (Read x) = refl
  takes l (Write x) = refl
  takes l (Release k) = refl
  takes l (Fork u) = refl
  takes l (Join u) = refl

  frees : (l : ℕ) (op : Op) → is_release (f.lock l) (renamed_op f op) ≡ is_release l op
  frees l (Release k) = same_number f.lock locks k l
  frees l (Read x) = refl
  frees l (Write x) = refl
  frees l (Acquire k) = refl
  frees l (Fork u) = refl
  frees l (Join u) = refl

  -- what an operation was
  taken : (w : ℕ) (op : Op) → renamed_op f op ≡ Acquire w → (l : ℕ) × (f.lock l ≡ w)
  taken w (Acquire l) h = (l, ap arg h)
  taken w (Read z) h = absurd (omega (arith, ap tag h))
  taken w (Write z) h = absurd (omega (arith, ap tag h))
  taken w (Release z) h = absurd (omega (arith, ap tag h))
  taken w (Fork z) h = absurd (omega (arith, ap tag h))
  taken w (Join z) h = absurd (omega (arith, ap tag h))

  any_same : (p q : Event → Bool) → ((v : Event) → p (renamed_event f v) ≡ q v) → (V : List Event) → list_any p (renamed f V) ≡ list_any q V
  any_same p q same [] = refl
  any_same p q same (v ∷ V) = ap₂ (λ a b. a || b) (same v) (any_same p q same V)

  count_same : (p q : Event → Bool) → ((v : Event) → p (renamed_event f v) ≡ q v) → (V : List Event) → count_by p (renamed f V) ≡ count_by q V
  count_same p q same [] = refl
  count_same p q same (v ∷ V) =
      sum_by-cons (λ w. cond (p w) 1 0) (renamed_event f v) (renamed f V)
      ∙ ap₂ (λ b n. cond b 1 0 + n) (same v) (count_same p q same V)
      ∙ sym (sum_by-cons (λ w. cond (q w) 1 0) v V)

  acquires_same : (V : List Event) (t l : ℕ) → acquire_count (renamed f V) (f.thread t) (f.lock l) ≡ acquire_count V t l
  acquires_same V t l =
      count_same (λ v. v.thread == f.thread t && is_acquire (f.lock l) v.op) (λ v. v.thread == t && is_acquire l v.op)
      (λ v. ap₂ (λ a b. a && b) (same_number f.thread threads v.thread t) (takes l v.op)) V

  holds_same : (V : List Event) (t l : ℕ) → hold_count (renamed f V) (f.thread t) (f.lock l) ≡ hold_count V t l
  holds_same V t l =
      ap₂ (λ a b. a - b) (acquires_same V t l)
      (count_same (λ v. v.thread == f.thread t && is_release (f.lock l) v.op) (λ v. v.thread == t && is_release l v.op)
      (λ v. ap₂ (λ a b. a && b) (same_number f.thread threads v.thread t) (frees l v.op)) V)

  -- an event that passes is that of an event
  passes : (p : Event → Bool) (V : List Event) → list_any p (renamed f V) ≡ true → (v : Event) × (p (renamed_event f v) ≡ true)
  passes p [] h = absurd (false≢true h)
  passes p (v ∷ V) h =
      elim (cases_Bool (p (renamed_event f v))) [
        | inl found ↦ (v, found)
        | inr none ↦ passes p V (sym (ap (λ b. b || list_any p (renamed f V)) none) ∙ h)
      ]

  -- who took a lock is of the list
  taker : (V : List Event) (t l : ℕ) → 0 < acquire_count (renamed f V) t l → (u : ℕ) × (k : ℕ) × (f.thread u ≡ t) × (f.lock k ≡ l)
  taker V t l above =
      let test : Event → Bool = λ v. v.thread == t && is_acquire l v.op in
      let v = passes test V (list_any-from_count test test (renamed f V) (λ x h. h) above) in
      let both = and_parts (f.thread v.0.thread == t) (is_acquire l (renamed_op f v.0.op)) v.1 in
      let k = taken l v.0.op (acquire-from_test l (renamed_op f v.0.op) both.1) in
      (v.0.thread, k.0, eqb-true (f.thread v.0.thread) t both.0, k.1)

  -- what is held stays the same
  pub holds-renamed : (A B : List Event) → ((t l : ℕ) → hold_count A t l ≡ hold_count B t l) → (t l : ℕ) → hold_count (renamed f A) t l ≡ hold_count (renamed f B) t l
  holds-renamed A B same t l =
      elim (cases_lt 0 (acquire_count (renamed f A) t l)) [
        | inl some ↦ let w = taker A t l some in at w.0 w.1 w.2 w.3
        | inr none ↦ elim (cases_lt 0 (acquire_count (renamed f B) t l)) [
          | inl some ↦ let w = taker B t l some in at w.0 w.1 w.2 w.3
          | inr also ↦ omega (arith, none, also)
        ]
      ]
    where
      at : (u k : ℕ) → f.thread u ≡ t → f.lock k ≡ l → hold_count (renamed f A) t l ≡ hold_count (renamed f B) t l
      at u k is also =
          subst (λ n. hold_count (renamed f A) n l ≡ hold_count (renamed f B) n l) is
          (subst (λ n. hold_count (renamed f A) (f.thread u) n ≡ hold_count (renamed f B) (f.thread u) n) also
          (holds_same A u k ∙ same u k ∙ sym (holds_same B u k)))

  op_renamed : (V : List Event) (t : ℕ) (op : Op) → breach_of_op (renamed f V) (f.thread t) (renamed_op f op) ≡ breach_of_op V t op
  op_renamed V t (Read x) = refl
  op_renamed V t (Write x) = refl
  op_renamed V t (Acquire l) =
      ap (λ b. cond b (Some AcquireHeld) None)
      (any_same (λ v. not (v.thread == f.thread t) && ltb 0 (hold_count (renamed f V) v.thread (f.lock l))) (λ v. not (v.thread == t) && ltb 0 (hold_count V v.thread l))
      (λ v. ap₂ (λ a n. not a && ltb 0 n) (same_number f.thread threads v.thread t) (holds_same V v.thread l)) V)
  op_renamed V t (Release l) = ap (λ n. cond (n == 0) (Some ReleaseNotHeld) None) (holds_same V t l)
  op_renamed V t (Fork u) =
      ap (λ b. cond b (Some OwnThread) (cond (list_any (λ v. is_fork (f.thread u) v.op) (renamed f V)) (Some ForkTwice) (cond (list_any (λ v. v.thread == f.thread u || is_join (f.thread u) v.op) (renamed f V)) (Some ForkLate) None)))
      (same_number f.thread threads u t)
      ∙ ap₂ (λ a b. cond (u == t) (Some OwnThread) (cond a (Some ForkTwice) (cond b (Some ForkLate) None)))
      (any_same (λ v. is_fork (f.thread u) v.op) (λ v. is_fork u v.op) (λ v. forks u v.op) V)
      (any_same (λ v. v.thread == f.thread u || is_join (f.thread u) v.op) (λ v. v.thread == u || is_join u v.op)
      (λ v. ap₂ (λ a b. a || b) (same_number f.thread threads v.thread u) (joins u v.op)) V)
  op_renamed V t (Join u) = ap (λ b. cond b (Some OwnThread) None) (same_number f.thread threads u t)

  breach-renamed : (V : List Event) (e : Event) → breach_of (renamed f V) (renamed_event f e) ≡ breach_of V e
  breach-renamed V e =
      ap₂ (λ b o. cond b (Some AfterJoin) o)
      (any_same (λ v. is_join (f.thread e.thread) v.op) (λ v. is_join e.thread v.op) (λ v. joins e.thread v.op) V)
      (op_renamed V e.thread e.op)

  pub breach_at-renamed : (V : List Event) (j : ℕ) → j < length V → breach_at (renamed f V) j ≡ breach_at V j
  breach_at-renamed V j low =
      let e : Event = get_or V j (record { thread = 0; op = Read 0 }) in
      let here : slice_get V j ≡ Some e = slice_get-get_or V j (record { thread = 0; op = Read 0 }) low in
      let there : slice_get (renamed f V) j ≡ Some (renamed_event f e) = slice_get-map (renamed_event f) V j ∙ ap (option_map (renamed_event f)) here in
      breach_at-event (renamed f V) j (renamed_event f e) there
      ∙ ap (λ es. breach_of es (renamed_event f e)) (take-map (renamed_event f) j V)
      ∙ breach-renamed (take j V) e
      ∙ sym (breach_at-event V j e here)

  -- other numbers keep the rules
  pub rules-renamed : (V : List Event) → IsDisciplined V → IsDisciplined (renamed f V)
  rules-renamed V rules =
      IsDisciplined-from_none (renamed f V) (λ j lt.
      let low : j < length V = omega (arith, lt, length-map V (renamed_event f)) in
      breach_at-renamed V j low ∙ none-from_IsDisciplined V rules j low)
