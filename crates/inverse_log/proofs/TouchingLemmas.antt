-- Touch lists after a step.
use Rattle.std.proofs.Common.{◌≡◌, ◌≢◌, ℕ, ◌-◌, ◌<◌, Bool, true, false, cond, List, [], ◌∷◌, ◌++◌, Option, Some, None, All, map, filter, reverse, length, slice_get, refl, sym, ap, ◌∙◌, arith, inl, inr}
use Rattle.std.specs.List.{find}
use Rattle.std.specs.Option.{option_map}
use Rattle.std.proofs.lemmas.Bool.{cases_Bool}
use Rattle.std.proofs.lemmas.List.{append-nil, map-append, reverse-append}
use Rattle.std.proofs.lemmas.List.Elements.{filter-append, All-nil, All-cons, All-head, All-tail}
use Rattle.moves.specs.declared.command.Command.{Command}
use Rattle.inverse_log.specs.declared.entry.Entry.{Entry}
use Rattle.inverse_log.specs.declared.entry.Entry.TheVariants.{Undid, Proposed}
use Rattle.dependence.specs.Lists.{without, last_of}
use Rattle.dependence.proofs.CallerLemmas.{without_middle}
use Rattle.inverse_log.specs.Log.{Live, live, done_by, live_of}
use Rattle.inverse_log.specs.Touching.{entry_number}
use Rattle.inverse_log.proofs.LiveLemmas.{live_done, live_proposed, live_without, others_numbered, rises_live, rises_below, rises_split}

numbers_append : (q : Live → Bool) (E F : List Live) → map entry_number (filter q (E ++ F)) ≡ map entry_number (filter q E) ++ map entry_number (filter q F)
numbers_append q E F = ap (map entry_number) (filter-append q E F) ∙ map-append entry_number (filter q E) (filter q F)

-- the numbers of the live entries that pass a test, after one more
abbrev pub numbers : (Live → Bool) → List Entry → List ℕ
numbers q L = map entry_number (filter q (live_of L))

pub numbers_done : (q : Live → Bool) (L : List Entry) (e : Entry) (c : ℕ) (D : List Command) → done_by e ≡ Some (c, D) → numbers q (L ++ e ∷ []) ≡ cond (q (live (length L) c D)) (numbers q L ++ length L ∷ []) (numbers q L)
numbers_done q L e c D is = ap (λ E. map entry_number (filter q E)) (live_done L e c D is) ∙ numbers_append q (live_of L) (live (length L) c D ∷ []) ∙ one (q (live (length L) c D))
  where
    one : (b : Bool) → numbers q L ++ map entry_number (cond b (live (length L) c D ∷ []) []) ≡ cond b (numbers q L ++ length L ∷ []) (numbers q L)
    one true = refl
    one false = append-nil (numbers q L)

pub numbers_proposed : (q : Live → Bool) (L : List Entry) (c a b : ℕ) (P : List ℕ) → numbers q (L ++ Proposed c a b P ∷ []) ≡ numbers q L
numbers_proposed q L c a b P = ap (λ E. map entry_number (filter q E)) (live_proposed L c a b P)

-- all are below the length
numbers_below : (q : Live → Bool) (n : ℕ) (E : List Live) → All (λ (p : Live). p.number < n) E → All (λ k. k < n) (map entry_number (filter q E))
numbers_below q n [] all = All-nil (λ k. k < n)
numbers_below q n (e ∷ E) all = elim (cases_Bool (q e)) [
  | inl a ↦ rw a (All-cons (λ k. k < n) e.number (map entry_number (filter q E)) (All-head (λ (p : Live). p.number < n) e E all) (numbers_below q n E (All-tail (λ (p : Live). p.number < n) e E all)))
  | inr a ↦ rw a (numbers_below q n E (All-tail (λ (p : Live). p.number < n) e E all))
]

pub below : (q : Live → Bool) (L : List Entry) → All (λ k. k < length L) (numbers q L)
below q L = numbers_below q (length L) (live_of L) (rises_below (live_of L) 0 (length L) (rises_live L)).0

-- an undone entry goes from the lists that have it
numbers_apart : (q : Live → Bool) (k : ℕ) (E : List Live) → All (λ (p : Live). p.number ≢ k) E → All (λ j. j ≢ k) (map entry_number (filter q E))
numbers_apart q k [] all = All-nil (λ j. j ≢ k)
numbers_apart q k (e ∷ E) all = elim (cases_Bool (q e)) [
  | inl a ↦ rw a (All-cons (λ j. j ≢ k) e.number (map entry_number (filter q E)) (All-head (λ (p : Live). p.number ≢ k) e E all) (numbers_apart q k E (All-tail (λ (p : Live). p.number ≢ k) e E all)))
  | inr a ↦ rw a (numbers_apart q k E (All-tail (λ (p : Live). p.number ≢ k) e E all))
]

All-front : (P : Live → Type 0) (E F : List Live) → All P (E ++ F) → All P E
All-front P [] F all = All-nil P
All-front P (e ∷ E) F all = All-cons P e E (All-head P e (E ++ F) all) (All-front P E F (All-tail P e (E ++ F) all))

pub numbers_undid : (q : Live → Bool) (L : List Entry) (c : ℕ) (g : Live) (E F : List Live) → live_of L ≡ E ++ g ∷ F → numbers q (L ++ Undid c g.number ∷ []) ≡ cond (q g) (without g.number (numbers q L)) (numbers q L)
numbers_undid q L c g E F is =
    let others : All (λ (p : Live). p.number ≢ g.number) (E ++ F) = others_numbered E F g 0 (length L) (rises_split L E F g is) in
    let apart : All (λ j. j ≢ g.number) (map entry_number (filter q E)) = numbers_apart q g.number E (All-front (λ (p : Live). p.number ≢ g.number) E F others) in
    let was : numbers q L ≡ map entry_number (filter q E) ++ map entry_number (filter q (g ∷ F)) = ap (λ X. map entry_number (filter q X)) is ∙ numbers_append q E (g ∷ F) in
    let now : numbers q (L ++ Undid c g.number ∷ []) ≡ map entry_number (filter q E) ++ map entry_number (filter q F) = ap (λ X. map entry_number (filter q X)) (live_without L c g E F is) ∙ numbers_append q E F in
    elim (cases_Bool (q g)) [
      | inl h ↦
          let mine : numbers q L ≡ map entry_number (filter q E) ++ g.number ∷ map entry_number (filter q F) = rw h at was in
          rw h (now ∙ sym (ap (without g.number) mine ∙ without_middle g.number (map entry_number (filter q E)) (map entry_number (filter q F)) apart))
      | inr h ↦
          let mine : numbers q L ≡ map entry_number (filter q E) ++ map entry_number (filter q F) = rw h at was in
          rw h (now ∙ sym mine)
    ]

-- the last of a client's list is its greatest live entry
abbrev pub later : ℕ → Option ℕ → Option ℕ
later x None = Some x
later x (Some y) = Some y

some_last : (y : ℕ) (ys : List ℕ) → (z : ℕ) × (slice_get (y ∷ ys) (length ys) ≡ Some z)
some_last y [] = (y, refl)
some_last y (x ∷ xs) = some_last x xs

last_is : (x : ℕ) (xs : List ℕ) → last_of (x ∷ xs) ≡ slice_get (x ∷ xs) (length xs)
last_is x xs = let i : length (x ∷ xs) - 1 ≡ length xs = omega arith in ap (slice_get (x ∷ xs)) i

last_cons : (x : ℕ) (xs : List ℕ) → last_of (x ∷ xs) ≡ later x (last_of xs)
last_cons x [] = refl
last_cons x (y ∷ ys) = let s = some_last y ys in last_is x (y ∷ ys) ∙ s.1 ∙ sym (ap (later x) (last_is y ys ∙ s.1))

find_after : (q : Live → Bool) (xs : List Live) (e : Live) → option_map entry_number (find q (xs ++ e ∷ [])) ≡ cond (q e) (later e.number (option_map entry_number (find q xs))) (option_map entry_number (find q xs))
find_after q [] e = elim (cases_Bool (q e)) [ inl h ↦ rw h refl | inr h ↦ rw h refl ]
find_after q (x ∷ xs) e = elim (cases_Bool (q x)) [
  | inl a ↦ elim (cases_Bool (q e)) [ inl b ↦ rw (a, b) refl | inr b ↦ rw (a, b) refl ]
  | inr a ↦ rw a (find_after q xs e)
]

pub find_last : (q : Live → Bool) (E : List Live) → option_map entry_number (find q (reverse E)) ≡ last_of (map entry_number (filter q E))
find_last q [] = refl
find_last q (e ∷ E) = ap (λ xs. option_map entry_number (find q xs)) (reverse-append (e ∷ []) E) ∙ find_after q (reverse E) e ∙ ap (λ o. cond (q e) (later e.number o) o) (find_last q E) ∙ ends (q e)
  where
    ends : (b : Bool) → cond b (later e.number (last_of (map entry_number (filter q E)))) (last_of (map entry_number (filter q E))) ≡ last_of (map entry_number (cond b (e ∷ filter q E) (filter q E)))
    ends true = sym (last_cons e.number (map entry_number (filter q E)))
    ends false = refl
