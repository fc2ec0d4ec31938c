-- The threads that events use, by name and by number.
use Rattle.std.proofs.Common.{◌≡◌, ◌⊎◌, ℕ, ◌<◌, ◌==◌, ◌||◌, Bool, true, false, cond, List, [], ◌∷◌, ◌++◌, flat_map, bytes_eq, refl, sym, ap, ap₂, ◌∙◌, arith, eq-eqb, ne_eqb, count_by, inl, inr}
use Rattle.std.specs.List.{list_any}
use Rattle.std.specs.Cmp.Lexicographic.{bytes_decides}
use Rattle.std.proofs.lemmas.Bool.{cases_Bool, or_left, or_right, false≢true}
use Rattle.std.proofs.lemmas.Grind.{flat_map-append}
use Rattle.std.proofs.lemmas.List.Folds.{list_any-append}
use Rattle.std.proofs.lemmas.List.Sums.{sum_by-cons}
use Rattle.rapid_text.specs.Canonical.{name_at}
use Rattle.rapid_text.specs.Operations.{is_fork, is_join}
use Rattle.rapid_text.specs.Reading.{NamedEvent, name_where, names_thread, number_of, numbered, numbered_op, thread_uses}
use Rattle.rapid_text.specs.Recording.{Recording}
use Rattle.rapid_text.specs.declared.event.Event.{Event}
use Rattle.rapid_text.specs.declared.event.Kind.{Kind}
use Rattle.rapid_text.specs.declared.event.Kind.TheVariants.{Reads, Writes, Acquires, Releases, Forks, Joins}
use Rattle.rapid_text.proofs.NameNumbers.{has, bytes_eq-refl, name_at-number_of}
use Rattle.window.specs.Streams.{by_numbers, fork_uses, join_uses, names_forked, names_joined, own_uses}
use Rattle.window.proofs.NumberLemmas.{of_thread}

-- the uses of events and of those after them
pub uses-append : (uses : NamedEvent → List (List ℕ)) (X Z : List NamedEvent) (x : List ℕ)
    → has (flat_map uses (X ++ Z)) x ≡ (has (flat_map uses X) x || has (flat_map uses Z) x)
uses-append uses X Z x =
    ap (λ (ns : List (List ℕ)). has ns x) (flat_map-append uses X Z) ∙ list_any-append (bytes_eq x) (flat_map uses X) (flat_map uses Z)

-- Different names have different numbers.
number_same : (names : List (List ℕ)) (a b : List ℕ) → has names a ≡ true → has names b ≡ true → (number_of names a == number_of names b) ≡ bytes_eq b a
number_same names a b here there =
    elim (cases_Bool (bytes_eq b a)) [
      | inl same ↦
          let is : b ≡ a = (bytes_decides b a).0 same in
          eq-eqb (number_of names a) (number_of names b) (ap (number_of names) (sym is)) ∙ sym same
      | inr other ↦
          ne_eqb (number_of names a) (number_of names b)
          (λ equal.
          let is : b ≡ a = sym (name_at-number_of names b there) ∙ ap (name_at names) (sym equal) ∙ name_at-number_of names a here in
          absurd (false≢true (sym other ∙ (bytes_decides b a).1 is)))
          ∙ sym other
    ]

or_none : (b : Bool) → b ≡ (b || false)
or_none true = refl
or_none false = refl

own_name : (b : Bool) (n : List ℕ) → b ≡ true → has (cond b (n ∷ []) []) n ≡ true
own_name true n is = or_left (bytes_eq n n) false (bytes_eq-refl n)
own_name false n is = absurd (false≢true is)

-- Events that use a thread, by its name.
module _ (R : Recording) (x : List ℕ) (known : has R.threads x ≡ true) where
  abbrev u : ℕ
  u = number_of R.threads x

  abbrev by : NamedEvent → Event
  by e = numbered R.threads R.variables R.locks e

  -- a test of the events that is one of the names that they use
  module _ (p : Event → Bool) (uses : NamedEvent → List (List ℕ))
      (each : (e : NamedEvent) → has R.threads e.thread ≡ true → (names_thread e.kind ≡ true → has R.threads e.name ≡ true) → p (by e) ≡ has (uses e) x) where
    uses_is : (X : List NamedEvent) → ((name : List ℕ) → has (thread_uses X) name ≡ true → has R.threads name ≡ true) → list_any p (by_numbers R X) ≡ has (flat_map uses X) x
    uses_is [] among = refl
    uses_is (e ∷ X) among =
        let own : has R.threads e.thread ≡ true =
        among e.thread (or_left (bytes_eq e.thread e.thread) (has (name_where names_thread e ++ thread_uses X) e.thread) (bytes_eq-refl e.thread)) in
        let joined : (name : List ℕ) → has (of_thread e) name ≡ true → has R.threads name ≡ true =
        λ name here. among name (list_any-append (bytes_eq name) (of_thread e) (thread_uses X) ∙ or_left (has (of_thread e) name) (has (thread_uses X) name) here) in
        let other : names_thread e.kind ≡ true → has R.threads e.name ≡ true =
        λ passes. joined e.name (or_right (bytes_eq e.name e.thread) (has (name_where names_thread e) e.name) (own_name (names_thread e.kind) e.name passes)) in
        let later : (name : List ℕ) → has (thread_uses X) name ≡ true → has R.threads name ≡ true =
        λ name here. among name (list_any-append (bytes_eq name) (of_thread e) (thread_uses X) ∙ or_right (has (of_thread e) name) (has (thread_uses X) name) here) in
        ap₂ (λ a b. a || b) (each e own other) (uses_is X later) ∙ sym (list_any-append (bytes_eq x) (uses e) (flat_map uses X))

  fork_is : (kind : Kind) (name : List ℕ) → (names_thread kind ≡ true → has R.threads name ≡ true)
      → is_fork u (numbered_op R.threads R.variables R.locks kind name) ≡ has (cond (names_forked kind) (name ∷ []) []) x
  fork_is Reads name of = refl
  fork_is Writes name of = refl
  fork_is Acquires name of = refl
  fork_is Releases name of = refl
  fork_is Forks name of = number_same R.threads name x (of refl) known ∙ or_none (bytes_eq x name)
  fork_is Joins name of = refl

  join_is : (kind : Kind) (name : List ℕ) → (names_thread kind ≡ true → has R.threads name ≡ true)
      → is_join u (numbered_op R.threads R.variables R.locks kind name) ≡ has (cond (names_joined kind) (name ∷ []) []) x
  join_is Reads name of = refl
  join_is Writes name of = refl
  join_is Acquires name of = refl
  join_is Releases name of = refl
  join_is Forks name of = refl
  join_is Joins name of = number_same R.threads name x (of refl) known ∙ or_none (bytes_eq x name)

  module _ (X : List NamedEvent) (among : (name : List ℕ) → has (thread_uses X) name ≡ true → has R.threads name ≡ true) where
    pub own_at : list_any (λ v. v.thread == u) (by_numbers R X) ≡ has (own_uses X) x
    own_at =
        uses_is (λ v. v.thread == u) (λ e. e.thread ∷ [])
        (λ e own of. number_same R.threads e.thread x own known ∙ or_none (bytes_eq x e.thread)) X among

    pub forks_at : list_any (λ v. is_fork u v.op) (by_numbers R X) ≡ has (fork_uses X) x
    forks_at = uses_is (λ v. is_fork u v.op) (name_where names_forked) (λ e own of. fork_is e.kind e.name of) X among

    pub joins_at : list_any (λ v. is_join u v.op) (by_numbers R X) ≡ has (join_uses X) x
    joins_at = uses_is (λ v. is_join u v.op) (name_where names_joined) (λ e own of. join_is e.kind e.name of) X among

-- what is there counts
pub count_from_any : {X : Type 0} (p : X → Bool) (xs : List X) → list_any p xs ≡ true → 0 < count_by p xs
count_from_any p [] here = absurd (false≢true here)
count_from_any p (x ∷ xs) here =
    elim (cases_Bool (p x)) [
      | inl found ↦ omega (arith, sum_by-cons (λ y. cond (p y) 1 0) x xs, ap (λ b. cond {A = ℕ} b 1 0) found)
      | inr none ↦
          let rest = count_from_any p xs (sym (ap (λ b. b || list_any p xs) none) ∙ here) in
          omega (arith, sum_by-cons (λ y. cond (p y) 1 0) x xs, rest)
    ]

-- a thread of an event is one that the events name
pub own_among : (X : List NamedEvent) (x : List ℕ) → has (own_uses X) x ≡ true → has (thread_uses X) x ≡ true
own_among [] x here = here
own_among (e ∷ X) x here =
    elim (cases_Bool (bytes_eq x e.thread)) [
      | inl same ↦ or_left (bytes_eq x e.thread) (has (name_where names_thread e ++ thread_uses X) x) same
      | inr other ↦
          or_right (bytes_eq x e.thread) (has (name_where names_thread e ++ thread_uses X) x)
          (list_any-append (bytes_eq x) (name_where names_thread e) (thread_uses X)
          ∙ or_right (has (name_where names_thread e) x) (has (thread_uses X) x) (own_among X x (sym (ap (λ b. b || has (own_uses X) x) other) ∙ here)))
    ]

-- The names that events use among those of their threads.
uses_among : (uses : NamedEvent → List (List ℕ)) → ((e : NamedEvent) (x : List ℕ) → has (uses e) x ≡ true → has (of_thread e) x ≡ true)
    → (X : List NamedEvent) (x : List ℕ) → has (flat_map uses X) x ≡ true → has (thread_uses X) x ≡ true
uses_among uses each [] x here = here
uses_among uses each (e ∷ X) x here =
    elim (cases_Bool (has (uses e) x)) [
      | inl found ↦ list_any-append (bytes_eq x) (of_thread e) (thread_uses X) ∙ or_left (has (of_thread e) x) (has (thread_uses X) x) (each e x found)
      | inr none ↦
          list_any-append (bytes_eq x) (of_thread e) (thread_uses X)
          ∙ or_right (has (of_thread e) x) (has (thread_uses X) x)
          (uses_among uses each X x (sym (ap (λ b. b || has (flat_map uses X) x) none) ∙ sym (list_any-append (bytes_eq x) (uses e) (flat_map uses X)) ∙ here))
    ]

where_among : (kind : Kind) (a b : Bool) (thread name x : List ℕ) → (a ≡ true → b ≡ true) → has (cond a (name ∷ []) []) x ≡ true → has (thread ∷ cond b (name ∷ []) []) x ≡ true
where_among kind true b thread name x on here =
    or_right (bytes_eq x thread) (has (cond b (name ∷ []) []) x) (ap (λ (c : Bool). has (cond c (name ∷ []) []) x) (on refl) ∙ here)
where_among kind false b thread name x on here = absurd (false≢true here)

forked_thread : (kind : Kind) → names_forked kind ≡ true → names_thread kind ≡ true
forked_thread Forks is = refl
forked_thread Joins is = refl
forked_thread Reads is = is
forked_thread Writes is = is
forked_thread Acquires is = is
forked_thread Releases is = is

joined_thread : (kind : Kind) → names_joined kind ≡ true → names_thread kind ≡ true
joined_thread Joins is = refl
joined_thread Forks is = refl
joined_thread Reads is = is
joined_thread Writes is = is
joined_thread Acquires is = is
joined_thread Releases is = is

pub forks_among : (X : List NamedEvent) (x : List ℕ) → has (fork_uses X) x ≡ true → has (thread_uses X) x ≡ true
forks_among = uses_among (name_where names_forked) (λ e x here. where_among e.kind (names_forked e.kind) (names_thread e.kind) e.thread e.name x (forked_thread e.kind) here)

pub joins_among : (X : List NamedEvent) (x : List ℕ) → has (join_uses X) x ≡ true → has (thread_uses X) x ≡ true
joins_among = uses_among (name_where names_joined) (λ e x here. where_among e.kind (names_joined e.kind) (names_thread e.kind) e.thread e.name x (joined_thread e.kind) here)

or_same : (b : Bool) → b ≡ (b || false)
or_same true = refl
or_same false = refl

pub one_of_three : (p q r : Bool) → ((p || q) || r) ≡ true → (p ≡ true) ⊎ ((q ≡ true) ⊎ (r ≡ true))
one_of_three true q r is = inl refl
one_of_three false true r is = inr (inl refl)
one_of_three false false r is = inr (inr is)

-- a thread that is named has an event, or is forked or joined
thread_kinds : (kind : Kind) (name x : List ℕ)
    → has (cond (names_thread kind) (name ∷ []) []) x ≡ (has (cond (names_forked kind) (name ∷ []) []) x || has (cond (names_joined kind) (name ∷ []) []) x)
thread_kinds Reads name x = refl
thread_kinds Writes name x = refl
thread_kinds Acquires name x = refl
thread_kinds Releases name x = refl
thread_kinds Forks name x = or_same (has (name ∷ []) x)
thread_kinds Joins name x = refl

pub three_uses : (X : List NamedEvent) (x : List ℕ) → has (thread_uses X) x ≡ true → ((has (own_uses X) x || has (fork_uses X) x) || has (join_uses X) x) ≡ true
three_uses [] x here = here
three_uses (e ∷ X) x here =
    let o = bytes_eq x e.thread in
    let f = has (name_where names_forked e) x in
    let j = has (name_where names_joined e) x in
    let os = has (own_uses X) x in
    let fs = has (fork_uses X) x in
    let js = has (join_uses X) x in
    let some : (o || ((f || j) || has (thread_uses X) x)) ≡ true =
    ap (λ b. o || (b || has (thread_uses X) x)) (sym (thread_kinds e.kind e.name x))
    ∙ ap (λ b. o || b) (sym (list_any-append (bytes_eq x) (name_where names_thread e) (thread_uses X))) ∙ here in
    ap₂ (λ a b. ((o || os) || a) || b) (list_any-append (bytes_eq x) (name_where names_forked e) (fork_uses X)) (list_any-append (bytes_eq x) (name_where names_joined e) (join_uses X))
    ∙ six o f j os fs js (has (thread_uses X) x) (three_uses X x) some
  where
    six : (o f j os fs js t : Bool) → (t ≡ true → ((os || fs) || js) ≡ true) → (o || ((f || j) || t)) ≡ true → (((o || os) || (f || fs)) || (j || js)) ≡ true
    six true f j os fs js t on is = refl
    six false true j true fs js t on is = refl
    six false true j false fs js t on is = refl
    six false false true true fs js t on is = refl
    six false false true false true js t on is = refl
    six false false true false false js t on is = refl
    six false false false os fs js t on is = on is
