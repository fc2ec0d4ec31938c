-- The live entries after one more entry.
use Rattle.std.proofs.Common.{◌≡◌, ◌≢◌, inl, inr, ℕ, zero, suc, ◌+◌, ◌<◌, ◌≤◌, Bool, true, false, eqb, ltb, cond, not, ◌&&◌, ◌||◌, List, [], ◌∷◌, ◌++◌, Option, Some, None, All, length, drop, reverse, slice_get, filter, refl, sym, ap, ◌∙◌, subst, arith}
use Rattle.std.specs.List.{range_with_len, filter_map, find, cons_option, list_any}
use Rattle.std.proofs.lemmas.Bool.{cases_Bool, cases_lt, eqb-true, lt-ltb, eq-eqb}
use Rattle.std.proofs.lemmas.Bool.Decides.{eqb_tells}
use Rattle.std.proofs.lemmas.List.{length_push, append_assoc, append-nil, drop-append-le, reverse-append, reverse-reverse}
use Rattle.std.proofs.lemmas.List.Elements.{All-nil, All-cons, All-head, All-tail, All-weaker, All-from_get_or, filter_map-append, filter-append}
use Rattle.std.proofs.Math.ListN.{drop_of_length-le}
use Rattle.std.proofs.lemmas.List.Folds.{list_any-append}
use Rattle.std.proofs.lemmas.Grind.{flat_map-append}
use Rattle.std.proofs.lemmas.List.FromFn.{get_or-range_with_len, length-range_with_len}
use Rattle.std.specs.Option.{option_to_list, IfSome}
use Rattle.event_index.proofs.CallerLemmas.{find-all_fail}
use Rattle.moves.specs.Commands.{touches_any}
use Rattle.moves.specs.Ages.{age}
use Rattle.moves.specs.Fold.{Numbered, numbered, Rises}
use Rattle.moves.specs.declared.command.Command.{Command}
use Rattle.inverse_log.specs.declared.entry.Entry.{Entry}
use Rattle.inverse_log.specs.declared.entry.Entry.TheVariants.{Did, Batch, Undid, Proposed}
use Rattle.inverse_log.specs.Log.{Live, live, births_of, steps_of, undoes, is_undone, done_by, done_in, live_by, live_at, live_of, is_by, written, blocks, last_live, blocker_of}

-- numbers rise from low on, and stay below high
abbrev pub Climbs : ℕ → List Live → ℕ → Type 0
Climbs low [] high = low ≤ high
Climbs low (e ∷ E) high = (low ≤ e.number) × Climbs (e.number + 1) E high

or_none : (b : Bool) → (b || false) ≡ b
or_none true = refl
or_none false = refl

undone_past : (L : List Entry) (e : Entry) (k : ℕ) → k < length L → is_undone (L ++ e ∷ []) k ≡ (is_undone L k || undoes k e)
undone_past L e k h =
    let le : k + 1 ≤ length L = omega arith in
    rw (drop-append-le (k + 1) L (e ∷ []) le, list_any-append (undoes k) (drop (k + 1) L) (e ∷ [])) (ap (λ b. is_undone L k || b) (or_none (undoes k e)))

-- what is left of an entry by a test
abbrev pub passed : (Live → Bool) → Option Live → Option Live
passed q None = None
passed q (Some p) = cond (q p) (Some p) None

pub live_by_number : (k : ℕ) (u : Bool) (o : Option (ℕ × List Command)) → IfSome (live_by k u o) (λ (p : Live). p.number ≡ k)
live_by_number k true o = tt
live_by_number k false None = tt
live_by_number k false (Some p) = refl

live_by_or : (k : ℕ) (u v : Bool) (o : Option (ℕ × List Command)) → live_by k (u || v) o ≡ cond v None (live_by k u o)
live_by_or k true true o = refl
live_by_or k true false o = refl
live_by_or k false true o = refl
live_by_or k false false o = refl

passed_is : (e : Entry) (k : ℕ) (o : Option Live) → IfSome o (λ (p : Live). p.number ≡ k) → cond (undoes k e) None o ≡ passed (λ p. not (undoes p.number e)) o
passed_is e k None at = elim (cases_Bool (undoes k e)) [ inl h ↦ rw h refl | inr h ↦ rw h refl ]
passed_is e k (Some p) at = elim (cases_Bool (undoes k e)) [ inl h ↦ rw (at, h) refl | inr h ↦ rw (at, h) refl ]

pub get_before : (L : List Entry) (e : Entry) (k : ℕ) → k < length L → slice_get (L ++ e ∷ []) k ≡ slice_get L k
get_before [] e k h = absurd (omega arith)
get_before (f ∷ L) e zero h = refl
get_before (f ∷ L) e (suc k) h = get_before L e k (omega arith)

pub get_last : (L : List Entry) (e : Entry) → slice_get (L ++ e ∷ []) (length L) ≡ Some e
get_last [] e = refl
get_last (f ∷ L) e = get_last L e

live_before : (L : List Entry) (e : Entry) (k : ℕ) → k < length L → live_at (L ++ e ∷ []) k ≡ passed (λ p. not (undoes p.number e)) (live_at L k)
live_before L e k h =
    rw (undone_past L e k h, get_before L e k h) (live_by_or k (is_undone L k) (undoes k e) (done_in (slice_get L k)) ∙ passed_is e k (live_at L k) (live_by_number k (is_undone L k) (done_in (slice_get L k))))

cons_kept : (q : Live → Bool) (a o : Option Live) (xs ys : List Live) → a ≡ passed q o → xs ≡ filter q ys → cons_option a xs ≡ filter q (cons_option o ys)
cons_kept q a None xs ys h rest = rw h rest
cons_kept q a (Some p) xs ys h rest = elim (cases_Bool (q p)) [
  | inl t ↦ let is : a ≡ Some p = rw t at h in rw (is, t) (ap (λ zs. p ∷ zs) rest)
  | inr f ↦ let is : a ≡ None = rw f at h in rw (is, f) rest
]

kept_filter : (f g : ℕ → Option Live) (q : Live → Bool) (ks : List ℕ) → All (λ k. g k ≡ passed q (f k)) ks → filter_map g ks ≡ filter q (filter_map f ks)
kept_filter f g q [] all = refl
kept_filter f g q (k ∷ ks) all =
    cons_kept q (g k) (f k) (filter_map g ks) (filter_map f ks) (All-head (λ k. g k ≡ passed q (f k)) k ks all) (kept_filter f g q ks (All-tail (λ k. g k ≡ passed q (f k)) k ks all))

pub range_push : (a n b : ℕ) → a + n ≡ b → range_with_len a (suc n) ≡ range_with_len a n ++ b ∷ []
range_push a zero b h = let i : a ≡ b = omega arith in ap (λ x. x ∷ []) i
range_push a (suc n) b h = ap (λ xs. a ∷ xs) (range_push (a + 1) n b (omega arith))

-- the live entries, but for those that the new entry undoes, and then the one that it does
pub live_push : (L : List Entry) (e : Entry) → live_of (L ++ e ∷ []) ≡ filter (λ p. not (undoes p.number e)) (live_of L) ++ option_to_list (live_at (L ++ e ∷ []) (length L))
live_push L e =
    let n = length L in
    let M = L ++ e ∷ [] in
    let long : length M ≡ suc n = omega (arith, length_push L e) in
    let all : All (λ k. live_at M k ≡ passed (λ p. not (undoes p.number e)) (live_at L k)) (range_with_len 0 n) =
    All-from_get_or (λ k. live_at M k ≡ passed (λ p. not (undoes p.number e)) (live_at L k)) (range_with_len 0 n) 0 (λ i h.
    let low : i < n = omega (arith, length-range_with_len 0 n) in
    let at = get_or-range_with_len 0 n i 0 low in
    live_before L e _ (omega arith)) in
    let kept' = kept_filter (live_at L) (live_at M) (λ p. not (undoes p.number e)) (range_with_len 0 n) all in
    ap (λ m. filter_map (live_at M) (range_with_len 0 m)) long ∙ ap (filter_map (live_at M)) (range_push 0 n n (omega arith)) ∙ filter_map-append (live_at M) (range_with_len 0 n) (n ∷ [])
    ∙ ap (λ xs. xs ++ filter_map (live_at M) (n ∷ [])) kept' ∙ ap (λ xs. filter (λ p. not (undoes p.number e)) (live_of L) ++ xs) (one (live_at M n))
  where
    one : (o : Option Live) → cons_option o [] ≡ option_to_list o
    one None = refl
    one (Some p) = refl

nothing_later : (L : List Entry) (e : Entry) → is_undone (L ++ e ∷ []) (length L) ≡ false
nothing_later L e = let none : drop (length L + 1) (L ++ e ∷ []) ≡ [] = drop_of_length-le (L ++ e ∷ []) (omega (arith, length_push L e)) in rw none refl

last_at : (L : List Entry) (e : Entry) → live_at (L ++ e ∷ []) (length L) ≡ live_by (length L) false (done_by e)
last_at L e = rw (nothing_later L e, get_last L e) refl

filter_every : (q : Live → Bool) (xs : List Live) → All (λ p. q p ≡ true) xs → filter q xs ≡ xs
filter_every q [] all = refl
filter_every q (x ∷ xs) all = rw (All-head (λ p. q p ≡ true) x xs all) (ap (λ ys. x ∷ ys) (filter_every q xs (All-tail (λ p. q p ≡ true) x xs all)))

filter_true : (xs : List Live) → filter (λ p. true) xs ≡ xs
filter_true [] = refl
filter_true (x ∷ xs) = ap (λ ys. x ∷ ys) (filter_true xs)

-- an entry that does something undoes nothing
none_undone : (e : Entry) (p : ℕ × List Command) (E : List Live) → done_by e ≡ Some p → filter (λ p. not (undoes p.number e)) E ≡ E
none_undone (Did c d) p E is = filter_true E
none_undone (Batch c D) p E is = filter_true E
none_undone (Undid c j) p E is = absurd cc
none_undone (Proposed c a b P) p E is = absurd cc

pub live_done : (L : List Entry) (e : Entry) (c : ℕ) (D : List Command) → done_by e ≡ Some (c, D) → live_of (L ++ e ∷ []) ≡ live_of L ++ live (length L) c D ∷ []
live_done L e c D is =
    let new : live_at (L ++ e ∷ []) (length L) ≡ Some (live (length L) c D) = last_at L e ∙ ap (live_by (length L) false) is in
    live_push L e ∙ ap (λ X. X ++ option_to_list (live_at (L ++ e ∷ []) (length L))) (none_undone e (c, D) (live_of L) is) ∙ ap (λ o. live_of L ++ option_to_list o) new

pub live_proposed : (L : List Entry) (c a b : ℕ) (P : List ℕ) → live_of (L ++ Proposed c a b P ∷ []) ≡ live_of L
live_proposed L c a b P = live_push L (Proposed c a b P) ∙ rw (last_at L (Proposed c a b P), filter_true (live_of L)) (append-nil (live_of L))

pub live_undid : (L : List Entry) (c k : ℕ) → live_of (L ++ Undid c k ∷ []) ≡ filter (λ p. not (eqb k p.number)) (live_of L)
live_undid L c k = live_push L (Undid c k) ∙ rw (last_at L (Undid c k)) (append-nil (filter (λ p. not (eqb k p.number)) (live_of L)))

-- the numbers of live entries rise
live_number : (L : List Entry) (k : ℕ) → IfSome (live_at L k) (λ (p : Live). p.number ≡ k)
live_number L k = live_by_number k (is_undone L k) (done_in (slice_get L k))

rises_lower : (E : List Live) (a b high : ℕ) → a ≤ b → Climbs b E high → Climbs a E high
rises_lower [] a b high h r = omega arith
rises_lower (e ∷ E) a b high h r = (omega arith, r.1)

rises_cons : (o : Option Live) (E : List Live) (a high : ℕ) → IfSome o (λ (p : Live). p.number ≡ a) → Climbs (a + 1) E high → Climbs a (cons_option o E) high
rises_cons None E a high at r = rises_lower E a (a + 1) high (omega arith) r
rises_cons (Some p) E a high at r = (omega arith, rises_lower E (p.number + 1) (a + 1) high (omega arith) r)

rises_range : (f : ℕ → Option Live) (a n high : ℕ) → a + n ≡ high → ((k : ℕ) → IfSome (f k) (λ (p : Live). p.number ≡ k)) → Climbs a (filter_map f (range_with_len a n)) high
rises_range f a zero high h all = omega arith
rises_range f a (suc n) high h all = rises_cons (f a) (filter_map f (range_with_len (a + 1) n)) a high (all a) (rises_range f (a + 1) n high (omega arith) all)

pub rises_live : (L : List Entry) → Climbs 0 (live_of L) (length L)
rises_live L = rises_range (live_at L) 0 (length L) (length L) (omega arith) (live_number L)

-- the numbers before and after one
pub rises_above : (E : List Live) (low high : ℕ) → Climbs low E high → All (λ (p : Live). low ≤ p.number) E
rises_above [] low high r = All-nil (λ (p : Live). low ≤ p.number)
rises_above (e ∷ E) low high r =
    All-cons (λ (p : Live). low ≤ p.number) e E r.0 (All-weaker (λ (p : Live). e.number + 1 ≤ p.number) (λ (p : Live). low ≤ p.number) (λ p h. omega (arith, r.0)) E (rises_above E (e.number + 1) high r.1))

pub rises_below : (E : List Live) (low high : ℕ) → Climbs low E high → All (λ (p : Live). p.number < high) E × (low ≤ high)
rises_below [] low high r = (All-nil (λ (p : Live). p.number < high), r)
rises_below (e ∷ E) low high r =
    let rest = rises_below E (e.number + 1) high r.1 in
    let up : e.number + 1 ≤ high = rest.1 in
    (All-cons (λ (p : Live). p.number < high) e E (omega arith) rest.0, omega (arith, r.0))

-- each other entry of a rising list has another number
pub others_numbered : (E F : List Live) (g : Live) (low high : ℕ) → Climbs low (E ++ g ∷ F) high → All (λ (p : Live). p.number ≢ g.number) (E ++ F)
others_numbered [] F g low high r = All-weaker (λ (p : Live). g.number + 1 ≤ p.number) (λ (p : Live). p.number ≢ g.number) (λ p h e. absurd (omega arith)) F (rises_above F (g.number + 1) high r.1)
others_numbered (e ∷ E) F g low high r =
    let rest = others_numbered E F g (e.number + 1) high r.1 in
    let up = rises_above (E ++ g ∷ F) (e.number + 1) high r.1 in
    let far : e.number + 1 ≤ g.number = after E up in
    All-cons (λ (p : Live). p.number ≢ g.number) e (E ++ F) (λ s. absurd (omega arith)) rest
  where
    after : (E : List Live) → All (λ (p : Live). e.number + 1 ≤ p.number) (E ++ g ∷ F) → e.number + 1 ≤ g.number
    after [] up = All-head (λ (p : Live). e.number + 1 ≤ p.number) g F up
    after (f ∷ E) up = after E (All-tail (λ (p : Live). e.number + 1 ≤ p.number) f (E ++ g ∷ F) up)

without_number : (k : ℕ) (p : Live) → p.number ≢ k → not (eqb k p.number) ≡ true
without_number k p h = elim (eqb_tells k p.number) [ inl g ↦ absurd (h (sym g.1)) | inr g ↦ rw g.0 refl ]

pub rises_split : (L : List Entry) (E F : List Live) (g : Live) → live_of L ≡ E ++ g ∷ F → Climbs 0 (E ++ g ∷ F) (length L)
rises_split L E F g is = subst (λ X. Climbs 0 X (length L)) is (rises_live L)

pub live_without : (L : List Entry) (c : ℕ) (g : Live) (E F : List Live) → live_of L ≡ E ++ g ∷ F → live_of (L ++ Undid c g.number ∷ []) ≡ E ++ F
live_without L c g E F is =
    let q : Live → Bool = λ p. not (eqb g.number p.number) in
    let apart : All (λ p. q p ≡ true) (E ++ F) = All-weaker (λ (p : Live). p.number ≢ g.number) (λ p. q p ≡ true) (without_number g.number) (E ++ F) (others_numbered E F g 0 (length L) (rises_split L E F g is)) in
    let out : q g ≡ false = rw (eq-eqb g.number g.number refl) refl in
    let middle : filter q (g ∷ F) ≡ filter q F = rw out refl in
    live_undid L c g.number ∙ ap (filter q) is ∙ filter-append q E (g ∷ F) ∙ ap (λ xs. filter q E ++ xs) middle ∙ sym (filter-append q E F) ∙ filter_every q (E ++ F) apart

-- and so do the births of their commands, of which an entry has no more than there are places
abbrev pub IsShort : Live → Type 0
IsShort p = (1 ≤ length p.commands) × (length p.commands ≤ 64)

lower : (E : List Numbered) (a b high : ℕ) → a ≤ b → Rises b E high → Rises a E high
lower [] a b high h r = omega (arith, h, r)
lower (e ∷ E) a b high h r = (omega (arith, h, r.0), r.1)

rises_numbered : (D : List Command) (n high : ℕ) → n + length D ≤ high → Rises n (numbered n D) high
rises_numbered [] n high h = omega (arith, h)
rises_numbered (d ∷ D) n high h = (omega arith, rises_numbered D (n + 1) high (omega (arith, h)))

rises_join : (X Y : List Numbered) (low mid high : ℕ) → Rises low X mid → Rises mid Y high → Rises low (X ++ Y) high
rises_join [] Y low mid high r t = lower Y low mid high r t
rises_join (e ∷ X) Y low mid high r t = (r.0, rises_join X Y (e.0 + 1) mid high r.1 t)

rises_ages : (E : List Live) (low high : ℕ) → All IsShort E → Climbs low E high → Rises (age low 0) (steps_of E) (age high 0)
rises_ages [] low high short r = let up : low ≤ high = r in omega (arith, up)
rises_ages (e ∷ E) low high short r =
    let here : low ≤ e.number = r.0 in
    let few = All-head IsShort e E short in
    rises_join (births_of e) (steps_of E) (age low 0) (age (e.number + 1) 0) (age high 0)
    (lower (births_of e) (age low 0) (age e.number 0) (age (e.number + 1) 0) (omega (arith, here)) (rises_numbered e.commands (age e.number 0) (age (e.number + 1) 0) (omega (arith, few.1))))
    (rises_ages E (e.number + 1) high (All-tail IsShort e E short) r.1)

pub rises_steps : (L : List Entry) (E : List Live) → All IsShort (live_of L) → live_of L ≡ E → Rises 0 (steps_of E) (age (length L) 0)
rises_steps L E short is = lower (steps_of E) 0 (age 0 0) (age (length L) 0) (omega arith) (rises_ages E 0 (length L) (subst (All IsShort) is short) (subst (λ X. Climbs 0 X (length L)) is (rises_live L)))

pub steps_append : (E F : List Live) → steps_of (E ++ F) ≡ steps_of E ++ steps_of F
steps_append E F = flat_map-append births_of E F

-- where `find` finds
pub find_split : (q : Live → Bool) (xs : List Live) (e : Live) → find q xs ≡ Some e → (A : List Live) × (C : List Live) × (xs ≡ A ++ e ∷ C) × (q e ≡ true)
find_split q [] e h = absurd cc
find_split q (x ∷ xs) e h = elim (cases_Bool (q x)) [
  | inl t ↦ let is : Some x ≡ Some e = rw t at h in let same : x ≡ e = cc in ([], xs, ap (λ y. y ∷ xs) same, subst (λ y. q y ≡ true) same t)
  | inr f ↦ let rest = find_split q xs e (rw f at h) in (x ∷ rest.0, rest.1, ap (λ ys. x ∷ ys) rest.2, rest.3)
]

pub last_split : (L : List Entry) (c : ℕ) (e : Live) → last_live L c ≡ Some e → (E : List Live) × (F : List Live) × (live_of L ≡ E ++ e ∷ F)
last_split L c e h =
    let s = find_split (is_by c) (reverse (live_of L)) e h in (
      reverse s.1,
      reverse s.0,
      sym (reverse-reverse (live_of L)) ∙ ap reverse s.2 ∙ reverse-append s.0 (e ∷ s.1) ∙ ap (λ xs. xs ++ reverse s.0) (reverse-append (e ∷ []) s.1) ∙ append_assoc (reverse s.1) (e ∷ []) (reverse s.0),
    )

All-back : (P : Live → Type 0) (E F : List Live) → All P (E ++ F) → All P F
All-back P [] F all = all
All-back P (e ∷ E) F all = All-back P E F (All-tail P e (E ++ F) all)

-- none blocks: no later live entry touches one of the names
pub clear_after : (L : List Entry) (g : Live) (E F : List Live) → live_of L ≡ E ++ g ∷ F → blocker_of L g ≡ None → All (λ (p : Live). list_any (touches_any p.commands) (written g) ≡ false) F
clear_after L g E F is none =
    let all : All (λ p. blocks g p ≡ false) (E ++ g ∷ F) = subst (All (λ p. blocks g p ≡ false)) is (find-all_fail (blocks g) (live_of L) none) in
    let back : All (λ p. blocks g p ≡ false) F = All-back (λ p. blocks g p ≡ false) (g ∷ []) F (All-back (λ p. blocks g p ≡ false) E (g ∷ F) all) in
    both F back (above E 0 (rises_split L E F g is))
  where
    above : (E : List Live) (low : ℕ) → Climbs low (E ++ g ∷ F) (length L) → All (λ (p : Live). g.number + 1 ≤ p.number) F
    above [] low r = rises_above F (g.number + 1) (length L) r.1
    above (e ∷ E) low r = above E (e.number + 1) r.1

    both : (F : List Live) → All (λ (p : Live). blocks g p ≡ false) F → All (λ (p : Live). g.number + 1 ≤ p.number) F → All (λ (p : Live). list_any (touches_any p.commands) (written g) ≡ false) F
    both [] all up = All-nil (λ (p : Live). list_any (touches_any p.commands) (written g) ≡ false)
    both (p ∷ F) all up =
        let here : (ltb g.number p.number && list_any (touches_any p.commands) (written g)) ≡ false = All-head (λ (p : Live). blocks g p ≡ false) p F all in
        let later : g.number + 1 ≤ p.number = All-head (λ (p : Live). g.number + 1 ≤ p.number) p F up in
        let is : ltb g.number p.number ≡ true = lt-ltb g.number p.number (omega arith) in
        All-cons (λ (p : Live). list_any (touches_any p.commands) (written g) ≡ false) p F (rw is at here)
        (both F (All-tail (λ (p : Live). blocks g p ≡ false) p F all) (All-tail (λ (p : Live). g.number + 1 ≤ p.number) p F up))

-- a live entry stands in the log
abbrev pub IsThere : List Entry → Live → Type 0
IsThere L p = done_in (slice_get L p.number) ≡ Some (p.client, p.commands)

live_by_there : (L : List Entry) (k : ℕ) (u : Bool) (o : Option (ℕ × List Command)) → done_in (slice_get L k) ≡ o → IfSome (live_by k u o) (IsThere L)
live_by_there L k true o is = tt
live_by_there L k false None is = tt
live_by_there L k false (Some p) is = is

All-more : (P : Live → Type 0) (o : Option Live) (E : List Live) → IfSome o P → All P E → All P (cons_option o E)
All-more P None E h all = all
All-more P (Some p) E h all = All-cons P p E h all

pub All-kept : (P : Live → Type 0) (f : ℕ → Option Live) (ks : List ℕ) → ((k : ℕ) → IfSome (f k) P) → All P (filter_map f ks)
All-kept P f [] all = All-nil P
All-kept P f (k ∷ ks) all = All-more P (f k) (filter_map f ks) (all k) (All-kept P f ks all)

pub live_theres : (L : List Entry) → All (IsThere L) (live_of L)
live_theres L = All-kept (IsThere L) (live_at L) (range_with_len 0 (length L)) (λ k. live_by_there L k (is_undone L k) (done_in (slice_get L k)) refl)

pub live_there : (L : List Entry) (g : Live) (E F : List Live) → live_of L ≡ E ++ g ∷ F → IsThere L g
live_there L g E F is = All-head (IsThere L) g F (All-back (IsThere L) E (g ∷ F) (subst (All (IsThere L)) is (live_theres L)))

pub last_mine : (L : List Entry) (c : ℕ) (g : Live) → last_live L c ≡ Some g → g.client ≡ c
last_mine L c g h = let s = find_split (is_by c) (reverse (live_of L)) g h in eqb-true g.client c s.3

-- a live entry stands among the live ones
abbrev pub IsAmong : List Live → Live → Type 0
IsAmong E g = (A : List Live) × (C : List Live) × (E ≡ A ++ g ∷ C)

pub among_more : (o : Option Live) (E : List Live) (g : Live) → IsAmong E g → IsAmong (cons_option o E) g
among_more None E g h = h
among_more (Some p) E g h = (p ∷ h.0, h.1, ap (λ X. p ∷ X) h.2)

among_range : (f : ℕ → Option Live) (a n k : ℕ) (g : Live) → a ≤ k → k < a + n → f k ≡ Some g → IsAmong (filter_map f (range_with_len a n)) g
among_range f a zero k g low high at = absurd (omega arith)
among_range f a (suc n) k g low high at = elim (cases_lt a k) [
  | inl h ↦ among_more (f a) (filter_map f (range_with_len (a + 1) n)) g (among_range f (a + 1) n k g (omega arith) (omega arith) at)
  | inr h ↦
      let is : a ≡ k = omega arith in
      let here : f a ≡ Some g = ap f is ∙ at in
      ([], filter_map f (range_with_len (a + 1) n), ap (λ o. cons_option o (filter_map f (range_with_len (a + 1) n))) here)
]

pub among_live : (L : List Entry) (k : ℕ) (g : Live) → k < length L → live_at L k ≡ Some g → IsAmong (live_of L) g
among_live L k g within at = among_range (live_at L) 0 (length L) k g (omega arith) (omega arith) at
